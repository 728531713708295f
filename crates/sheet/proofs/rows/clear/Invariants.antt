use Rattle.std.proofs.Common.{◌≡◌, ℕ, ◌<◌}
use Rattle.sheet.specs.Table.{entry_at}
use Rattle.sheet.proofs.rows.clear.Given as goal

abbrev pub invariant-loop-entry : goal.invariant-loop-entry
invariant-loop-entry g l = (i : ℕ) → i < l.entry-index → entry_at g.E.Entry l.row i ≡ g.E.Entry.neutral
