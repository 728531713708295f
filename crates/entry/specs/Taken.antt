-- An entry taken a number of times. Assumes nothing.
use Rattle.std.specs.Prelude.{ℕ, zero, suc, ℤ, pos, negsuc}
use Rattle.entry.specs.declared.kind.entry.Entry.{Ghosts}

module _ {E : Type 0} (k : Ghosts E) where
  -- n copies joined
  abbrev pub copies : ℕ → E → E
  copies zero x = k.neutral
  copies (suc n) x = k.joined (copies n x) x

  -- w copies, or for a w below 0 the inverse taken -w times
  abbrev pub taken : ℤ → E → E
  taken (pos n) x = copies n x
  taken (negsuc n) x = copies (suc n) (k.inverted x)
