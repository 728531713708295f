use Rattle.raster.specs.Drawn.{RowsDrawn}
use Rattle.raster.proofs.drawing.draw_rows.Given as goal

abbrev pub invariant-loop-y : goal.invariant-loop-y
invariant-loop-y g l = RowsDrawn (goal.F-post g l.value) l.width l.y l.initial.page l.page
