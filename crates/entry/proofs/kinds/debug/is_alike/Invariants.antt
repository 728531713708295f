use Rattle.std.proofs.Common.{◌≡◌, ℕ, ◌<◌}
use Rattle.entry.proofs.kinds.debug.is_alike.Given as goal

abbrev pub invariant-loop-level : goal.invariant-loop-level
invariant-loop-level g l = (n : ℕ) → n < l.level → g.A.Amount.amount n ≡ g.B.Amount.amount n
