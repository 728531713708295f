-- Words of k bits with addition are numbers modulo 2 ^ k. Assumes nothing.
use Rattle.std.specs.Prelude.{◌≡◌, ℕ, ◌+◌, ◌%◌, ◌^◌, ◌<◌, ◌≤◌}
use Rattle.std.proofs.Common.{◌∙◌, mod-eq_of_lt, arith}
use Rattle.std.proofs.Math.Nat.{zero-mod}
use Rattle.entry.specs.Kinds.{sums}
use Rattle.entry.specs.Numbers.{numbers}
use Rattle.entry.specs.WordGroup.{value_word}
use Rattle.entry.specs.Words.{Words}
use Rattle.entry.specs.declared.kind.entry.Entry as entry
use Rattle.entry.specs.declared.kind.modular.Modular as modular

-- joining adds the numbers, and a level counts its amount
pub record NumberLaws {E : Type 0} (k : entry.Ghosts E) (m : modular.Ghosts E) : Type 0 where
  pub empty : m.number k.neutral ≡ 0
  pub adds : (x y : E) → m.number (k.joined x y) ≡ (m.number x + m.number y) % 2 ^ m.bits
  pub counts : (g : ℕ) → g < 256 → m.number (k.lifted g) ≡ m.amount g

pub numbers_laws : {k : ℕ} {W : Type 0} (words : Words k W) (amount : ℕ → ℕ) (most : ℕ) → ((g : ℕ) → g < 256 → amount g ≤ most) → most < 2 ^ k → NumberLaws (sums words amount) (numbers words amount most)
numbers_laws {k} words amount most bounded room = record {
  empty = value_word words 0 ∙ zero-mod (2 ^ k);
  adds = λ x y. value_word words _;
  counts = λ g h. let small = bounded g h in value_word words _ ∙ mod-eq_of_lt (omega arith);
}
