-- Addition modulo 2 ^ k makes words of k bits a commutative group. Assumes nothing.
use Rattle.std.specs.Prelude.{◌≡◌, ℕ, suc, ◌+◌, ◌-◌, ◌%◌, ◌^◌, ◌<◌}
use Rattle.std.proofs.Common.{sym, ap, ◌∙◌, add_assoc, add_comm, add-zero, mod-eq_of_lt, arith}
use mathlib.Core.HLevel.{Σ_prop_path}
use Rattle.std.proofs.Math.Bridge.{le_prop}
use Rattle.std.proofs.Math.Nat.{mod-add-mod, add-mod-mod, mod_self, zero-mod}
use Rattle.entry.specs.Group.{Group}
use Rattle.entry.specs.Kinds.{sums}
use Rattle.entry.specs.Words.{Words, word}

module _ {k : ℕ} {W : Type 0} (words : Words k W) where
  -- two words of one value are one word
  pub same_word : (x y : W) → words.value x ≡ words.value y → x ≡ y
  same_word x y e =
      let B : ℕ → Type 0 = λ n. n < 2 ^ k in
      let pair : ◌≡◌ {A = (n : ℕ) × B n} (words.value x, words.fits x) (words.value y, words.fits y) = Σ_prop_path (λ (n : ℕ). le_prop {n = suc n} {m = 2 ^ k}) e in
      sym (words.made x) ∙ ap (λ (p : (n : ℕ) × B n). words.make p.0 p.1) pair ∙ words.made y

  pub value_word : (n : ℕ) → words.value (word words n) ≡ n % 2 ^ k
  value_word n = words.holds _ _

  pub word_value : (x : W) → word words (words.value x) ≡ x
  word_value x = same_word _ x (value_word _ ∙ mod-eq_of_lt (words.fits x))

  -- numbers that differ by a multiple of 2 ^ k have one word
  pub word_mod : (m n : ℕ) → m % 2 ^ k ≡ n % 2 ^ k → word words m ≡ word words n
  word_mod m n e = same_word _ _ (value_word m ∙ e ∙ sym (value_word n))

  -- a word is that of every number that leaves what its value leaves
  pub word_of : (x : W) (n : ℕ) → n % 2 ^ k ≡ words.value x % 2 ^ k → x ≡ word words n
  word_of x n h = sym (word_value x) ∙ word_mod (words.value x) n (sym h)

  -- a part of a sum may be wrapped before
  pub word_left : (m n : ℕ) → word words (words.value (word words m) + n) ≡ word words (m + n)
  word_left m n = word_mod _ _ (ap (λ (v : ℕ). (v + n) % 2 ^ k) (value_word m) ∙ mod-add-mod m (2 ^ k) n)

  pub word_right : (m n : ℕ) → word words (m + words.value (word words n)) ≡ word words (m + n)
  word_right m n = word_mod _ _ (ap (λ (v : ℕ). (m + v) % 2 ^ k) (value_word n) ∙ add-mod-mod m n (2 ^ k))

  pub sums_group : (amount : ℕ → ℕ) → Group (sums words amount)
  sums_group amount = record {
    associative = λ x y z. word_left _ _ ∙ ap (word words) (add_assoc (words.value x) (words.value y) (words.value z)) ∙ sym (word_right _ _);
    commutative = λ x y. ap (word words) (add_comm (words.value x) (words.value y));
    identity = λ x. word_right _ _ ∙ ap (word words) (add-zero (words.value x)) ∙ word_value x;
    inverses = λ x.
        let below = words.fits x in
        let whole : words.value x + (2 ^ k - words.value x) ≡ 2 ^ k = omega arith in
        word_right _ _ ∙ ap (word words) whole ∙ word_mod _ _ (mod_self (2 ^ k) ∙ sym (zero-mod (2 ^ k)));
  }
