use Rattle.std.proofs.Common.{◌+◌, ◌-◌, ◌*◌}
use Rattle.sheet.specs.Fill.{level_at}
use Rattle.sheet.specs.Table.{Rewritten}
use Rattle.sheet.proofs.passes.rewrite_rows.Given as goal

abbrev pub invariant-loop-y : goal.invariant-loop-y
invariant-loop-y g l =
    let left = l.columns.start in
    let right = l.columns.end in
    let top = l.rows.start in
    Rewritten g.E.Entry l.stride l.initial.table left right top l.y (λ i j. g.E.Entry.lifted (level_at l.fill ((j - top) * (right - left) + (i - left)))) l.table
