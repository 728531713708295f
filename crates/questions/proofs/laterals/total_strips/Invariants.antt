use Rattle.std.proofs.Common.{◌≡◌, ℕ, ◌<◌, get_or}
use Rattle.questions.specs.Laterals.{strip_total}
use Rattle.sheet.specs.View.{of_table}
use Rattle.questions.proofs.laterals.total_strips.Given as goal

abbrev pub invariant-loop-i : goal.invariant-loop-i
invariant-loop-i g l = (i : ℕ) → i < l.i → get_or l.totals i 0 ≡ of_table l.table (strip_total g.T.Entry g.T.Modular) l.stripped.strips l.stripped.rect i
