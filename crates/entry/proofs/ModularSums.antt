-- Numbers of joined entries, over any number of bits. Assumes nothing.
use Rattle.std.proofs.Common.{◌≡◌, ℕ, zero, suc, ◌+◌, ◌-◌, ◌*◌, ◌%◌, ◌^◌, ◌<◌, ◌≤◌, sym, refl, ap, ◌∙◌, inl, inr, mul-le-mul_right, mod-eq_of_lt, suc-mul, div-mul-le_self, arith, pow_pos}
use native.Mathlib.Nat.{mod-add-mod, zero-mod}
use Rattle.std.proofs.lemmas.Bool.{cases_lt}
use Rattle.entry.specs.Exactness.{Exact}
use Rattle.entry.specs.Sums.{prefix, plain_sum, limit_of}
use Rattle.entry.specs.declared.kind.entry.Entry as entry
use Rattle.entry.specs.declared.kind.modular.Modular as modular

-- sums of equal numbers, and of small ones
pub sum_same : (f g : ℕ → ℕ) (n : ℕ) → ((i : ℕ) → i < n → f i ≡ g i) → plain_sum f n ≡ plain_sum g n
sum_same f g zero e = refl
sum_same f g (suc n) e = ap (λ s. s + f n) (sum_same f g n (λ i h. e i (omega arith))) ∙ ap (λ x. plain_sum g n + x) (e n (omega arith))

pub sum_bounded : (f : ℕ → ℕ) (m n : ℕ) → ((i : ℕ) → i < n → f i ≤ m) → plain_sum f n ≤ n * m
sum_bounded f m zero b = omega arith
sum_bounded f m (suc n) b = omega (arith, suc-mul n m, sum_bounded f m n (λ i h. b i (omega arith)), b n (omega arith))

pub sum_none : (n : ℕ) → plain_sum (λ i. 0) n ≡ 0
sum_none zero = refl
sum_none (suc n) = let before = sum_none n in omega arith

-- a part is no more than the sum
pub sum_part : (f : ℕ → ℕ) (n i : ℕ) → i < n → f i ≤ plain_sum f n
sum_part f zero i lt = absurd (omega arith)
sum_part f (suc n) i lt = elim (cases_lt i n) [
  | inl below ↦ omega (arith, sum_part f n i below)
  | inr last ↦ let e : f i ≡ f n = ap f (let z : i ≡ n = omega arith in z) in omega arith
]

-- as many numbers of at most m as the limit says
pub limit_fits : (k m n : ℕ) → n ≤ limit_of k m → n * m < 2 ^ k
limit_fits k m n h = omega (arith, pow_pos k, mul-le-mul_right m h, div-mul-le_self (2 ^ k - 1) m)

module _ {E : Type 0} (k : entry.Ghosts E) (m : modular.Ghosts E)
    (empty : m.number k.neutral ≡ 0)
    (adds : (x y : E) → m.number (k.joined x y) ≡ (m.number x + m.number y) % 2 ^ m.bits)
    (counts : (g : ℕ) → g < 256 → m.number (k.lifted g) ≡ m.amount g)
    (bounded : (g : ℕ) → g < 256 → m.amount g ≤ m.most) where
  wraps : (f : ℕ → E) (n : ℕ) → m.number (prefix k f n) ≡ plain_sum (λ i. m.number (f i)) n % 2 ^ m.bits
  wraps f zero = empty ∙ sym (zero-mod (2 ^ m.bits))
  wraps f (suc n) = adds _ _ ∙ ap (λ s. (s + m.number (f n)) % 2 ^ m.bits) (wraps f n) ∙ mod-add-mod _ (2 ^ m.bits) _

  pub sums_exact : Exact k m
  sums_exact = record {
    empty = empty;
    counts = counts;
    bounded = bounded;
    wraps = wraps;
    exact = λ level n bytes fits.
        let amounts : plain_sum (λ i. m.number (k.lifted (level i))) n ≡ plain_sum (λ i. m.amount (level i)) n = sum_same _ _ n (λ i h. counts (level i) (bytes i h)) in
        wraps (λ i. k.lifted (level i)) n ∙ ap (λ s. s % 2 ^ m.bits) amounts ∙ mod-eq_of_lt fits;
    fits = λ level n bytes few.
        let top = sum_bounded (λ i. m.amount (level i)) m.most n (λ i h. bounded (level i) (bytes i h)) in
        omega (arith, top, limit_fits m.bits m.most n few);
  }
