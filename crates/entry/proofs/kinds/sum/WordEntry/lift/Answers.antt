use Rattle.std.proofs.Common.{◌%◌, ◌^◌, ◌∙◌, ap}
use mir.Val.{bits}
use Rattle.entry.proofs.kinds.sum.WordEntry.lift.Goals as goal

pub returns : goal.returns
returns g c = c.of.ensures _ (c.from_u16.ensures ∙ ap (λ n. n % 2 ^ bits g.U.Unsigned.width) c.amount.ensures)
