use Rattle.std.proofs.Common.{ℕ, ◌<◌, get_or}
use Rattle.raster.proofs.drawing.draw_row.Given as goal

abbrev pub invariant-loop-x : goal.invariant-loop-x
invariant-loop-x g l = (x : ℕ) → x < l.x → goal.F-post g l.value x l.y (get_or l.row x 0)
