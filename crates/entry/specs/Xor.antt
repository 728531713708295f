-- Words of 64 bits with exclusive or. Assumes nothing.
use Rattle.std.specs.Prelude.{◌≡◌, ℕ, zero, suc, ◌%◌, ℤ, pos, negsuc, FitsSigned, bit_xor, refl}
use Rattle.std.proofs.Common.{sym, ap, ◌∙◌, mod-eq_of_lt, arith, of_z, to_z}
use Rattle.std.proofs.lemmas.Nat.{xor_lt, xor_comm}
use Rattle.std.specs.Int.Bits.{xor_assoc, xor_self, xor_zero_r}
use Rattle.std.specs.Int.{w8}
use Rattle.std.proofs.lemmas.Int.{to_z-of_z}
use Rattle.entry.specs.Group.{Group}
use Rattle.entry.specs.Kinds.{Parity, parities, parity}
use Rattle.entry.specs.Taken.{copies, taken}
use Rattle.entry.specs.Words.{word}
use Rattle.entry.specs.WordGroup.{value_word, word_value}

value_joined : (x y : Parity) → (parity.joined x y).value ≡ bit_xor x.value y.value
value_joined x y = value_word parities _ ∙ mod-eq_of_lt (xor_lt 64 _ _ x.fits y.fits)

pub parity_group : Group parity
parity_group = record {
  associative = λ x y z.
      ap (λ (n : ℕ). word parities (bit_xor n z.value)) (value_joined x y)
      ∙ ap (word parities) (xor_assoc x.value y.value z.value)
      ∙ sym (ap (λ (n : ℕ). word parities (bit_xor x.value n)) (value_joined y z));
  commutative = λ x y. ap (word parities) (xor_comm x.value y.value);
  identity = λ x. ap (word parities) (xor_zero_r x.value) ∙ word_value parities x;
  inverses = λ x. ap (word parities) (xor_self x.value);
}

-- copies cancel in pairs
copies_cancel : (n : ℕ) (x : Parity) → (n % 2 ≡ 0 → copies parity n x ≡ parity.neutral) × (n % 2 ≡ 1 → copies parity n x ≡ x)
copies_cancel zero x = (λ h. refl, λ h. absurd (omega arith))
copies_cancel (suc n) x =
    let before = copies_cancel n x in (
      λ h. ap (λ e. parity.joined e x) (before.1 (omega arith)) ∙ parity_group.inverses x,
      λ h. ap (λ e. parity.joined e x) (before.0 (omega arith)) ∙ parity_group.commutative parity.neutral x ∙ parity_group.identity x,
    )

taken_cancel : (z : ℤ) (x : Parity) → FitsSigned w8 z → (of_z w8 z % 2 ≡ 0 → taken parity z x ≡ parity.neutral) × (of_z w8 z % 2 ≡ 1 → taken parity z x ≡ x)
taken_cancel (pos n) x small = copies_cancel n x
taken_cancel (negsuc n) x small =
    let below = small.sfits in
    (λ h. (copies_cancel (suc n) x).0 (omega arith), λ h. (copies_cancel (suc n) x).1 (omega arith))

-- the code of `times`: r, the bits of the weight z, is even or odd
module _ (z : ℤ) (x : Parity) (r : ℕ) (small : FitsSigned w8 z) (cast : r ≡ of_z w8 (to_z w8 (of_z w8 z))) where
  bits_are : r ≡ of_z w8 z
  bits_are = cast ∙ ap (of_z w8) (to_z-of_z w8 z small)

  pub taken_even : r % 2 ≡ 0 → parity.neutral ≡ taken parity z x
  taken_even h = sym ((taken_cancel z x small).0 (ap (λ (n : ℕ). n % 2) (sym bits_are) ∙ h))

  pub taken_odd : r % 2 ≡ 1 → x ≡ taken parity z x
  taken_odd h = sym ((taken_cancel z x small).1 (ap (λ (n : ℕ). n % 2) (sym bits_are) ∙ h))
