use Rattle.sheet.specs.Table.{Added}
use Rattle.sheet.proofs.passes.add_rows.Given as goal

abbrev pub invariant-loop-y : goal.invariant-loop-y
invariant-loop-y g l = Added g.E.Entry l.stride l.initial.table l.left l.top l.y l.base l.sign l.table
