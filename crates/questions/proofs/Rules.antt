-- Rules on the windows of pages. Assumes nothing.
use Rattle.std.proofs.Common.{ℕ}
use Rattle.entry.specs.Kinds.{whole}
use Rattle.entry.specs.Numbers.{whole_numbers}
use Rattle.raster.specs.Region.{WindowLaw}
use Rattle.questions.specs.Windows.{RuleLaw}

-- what a rule makes of corners it makes of the levels
pub same_rule : WindowLaw whole whole_numbers → (rule : (level total count : ℕ) → ℕ) → RuleLaw rule rule
same_rule windows rule = record { bytes = λ width height hw hh p memory holds bytes w x y hx hy. windows.bytes width height hw hh p memory holds bytes rule w x y hx hy }
