use Rattle.std.proofs.Common.{refl}
use Rattle.entry.specs.Kinds.{pair}
use Rattle.entry.proofs.Homomorphism.{taken_part}
use Rattle.entry.proofs.kinds.pair.PairWeighable.times.Goals as goal

pub returns : goal.returns
returns g c =
    let a = g.A.Entry in
    let b = g.B.Entry in
    let one = taken_part (pair a b) a (λ x. x.first) refl (λ x y. refl) (λ x. refl) c.args.w c.args.self _ c.ranges.w c.times.ensures in
    let two = taken_part (pair a b) b (λ x. x.second) refl (λ x y. refl) (λ x. refl) c.args.w c.args.self _ c.ranges.w c.times-2.ensures in
    λ i. record { first = one i; second = two i }
