use Rattle.std.proofs.Common.{◌*◌}
use Rattle.entry.specs.Machine.{words_of}
use Rattle.entry.proofs.Weights.{scaled}
use Rattle.entry.proofs.kinds.sum.WordWeighable.times.Goals as goal

pub returns : goal.returns
returns g c =
    let u = g.U.Unsigned in
    let weight = u.number c.from_i8.result in
    scaled u.width (words_of u) g.A.Amount.amount c.args.w c.args.self c.of.result weight c.ranges.w c.from_i8.ensures (c.of.ensures (u.number c.args.self.value * weight) c.wrapping_mul.ensures)
