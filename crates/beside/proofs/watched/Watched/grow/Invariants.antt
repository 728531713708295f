use Rattle.std.proofs.Common.{◌≡◌}
use Rattle.beside.proofs.watched.Watched.grow.Given as goal

abbrev pub invariant-loop-y : goal.invariant-loop-y
invariant-loop-y g l = record {
  width : l.growing.frame.width ≡ l.initial.growing.frame.width;
  height : l.growing.frame.height ≡ l.initial.growing.frame.height;
  page : l.page.size ≡ l.initial.page.size;
}
