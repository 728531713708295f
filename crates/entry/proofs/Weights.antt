-- A word taken a number of times is a product. Assumes nothing.
use Rattle.std.proofs.Common.{◌≡◌, ℕ, zero, suc, ◌+◌, ◌-◌, ◌*◌, ◌%◌, ◌^◌, ◌≤◌, ℤ, pos, negsuc, nat_abs, sym, ap, ◌∙◌, le_trans, suc-mul, mul_comm, zero-mul, mul-add, arith, lit≤, w8, w16, w32, w64, SFits, to_z, of_z}
use native.Mathlib.Nat.{add-mul-mod_self_right}
use lib.Signed.{nat_abs-le}
use mir.Syntax.{Width, w128}
use mir.Val.{bits}
use Rattle.std.proofs.lemmas.Int.{to_z-of_z}
use Rattle.entry.specs.Kinds.{sums}
use Rattle.entry.specs.Taken.{copies, taken}
use Rattle.entry.specs.Words.{Words, word, plus}
use Rattle.entry.specs.WordGroup.{word_value, word_mod, word_left, word_right}

-- n copies of the word of m
copies_word : {k : ℕ} {W : Type 0} (words : Words k W) (amount : ℕ → ℕ) (n m : ℕ) → copies (sums words amount) n (word words m) ≡ word words (n * m)
copies_word words amount zero m = ap (word words) (sym (zero-mul m))
copies_word words amount (suc n) m =
    ap (λ x. plus words x (word words m)) (copies_word words amount n m) ∙ word_left words _ _ ∙ word_right words _ _ ∙ ap (word words) (sym (suc-mul n m))

-- a times the complement of v, and v times that of a, differ by a multiple of m
complements : (a v m : ℕ) → a ≤ m → v ≤ m → (a * (m - v)) % m ≡ (v * (m - a)) % m
complements a v m ha hv =
    let am : a * m ≡ a * v + a * (m - v) = ap (λ (n : ℕ). a * n) (omega arith) ∙ mul-add a v (m - v) in
    let vm : v * m ≡ v * a + v * (m - a) = ap (λ (n : ℕ). v * n) (omega arith) ∙ mul-add v a (m - a) in
    let swap = mul_comm a v in
    let e : a * (m - v) + v * m ≡ v * (m - a) + a * m = omega arith in
    sym (add-mul-mod_self_right (a * (m - v)) v m) ∙ ap (λ (n : ℕ). n % m) e ∙ add-mul-mod_self_right (v * (m - a)) a m

byte_within : (w : Width) → 2 ^ 7 ≤ 2 ^ bits w
byte_within w8 = lit≤ tt
byte_within w16 = lit≤ tt
byte_within w32 = lit≤ tt
byte_within w64 = lit≤ tt
byte_within w128 = lit≤ tt

module _ (w : Width) {W : Type 0} (words : Words (bits w) W) (amount : ℕ → ℕ) where
  -- a word taken z times is its product with the bits of z
  taken_bits : (z : ℤ) (x : W) → nat_abs z ≤ 2 ^ bits w → taken (sums words amount) z x ≡ word words (words.value x * of_z w z)
  taken_bits (pos n) x h =
      ap (copies (sums words amount) n) (sym (word_value words x)) ∙ copies_word words amount n (words.value x) ∙ ap (word words) (mul_comm n (words.value x))
  taken_bits (negsuc n) x h =
      let below = words.fits x in
      copies_word words amount (suc n) (2 ^ bits w - words.value x) ∙ word_mod words _ _ (complements (suc n) (words.value x) (2 ^ bits w) h (omega arith))

  pub taken_product : (z : ℤ) (x : W) → SFits w8 z → taken (sums words amount) z x ≡ word words (words.value x * of_z w z)
  taken_product z x small = taken_bits z x (le_trans (nat_abs-le z small.sfits) (byte_within w))

  -- the code of `times`: r has the bits of the weight z of 8 bits, and y is the word of the product with r
  pub scaled : (z : ℤ) (x y : W) (r : ℕ) → SFits w8 z → r ≡ of_z w (to_z w8 (of_z w8 z)) → y ≡ word words (words.value x * r) → y ≡ taken (sums words amount) z x
  scaled z x y r small weight product =
      let wide : r ≡ of_z w z = weight ∙ ap (of_z w) (to_z-of_z w8 z small) in
      product ∙ ap (λ (n : ℕ). word words (words.value x * n)) wide ∙ sym (taken_product z x small)
