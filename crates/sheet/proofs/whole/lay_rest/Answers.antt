use Rattle.std.proofs.Common.{arith}
use Rattle.sheet.specs.Page.{with_rest}
use Rattle.sheet.proofs.Calls.{laid_renewed, rest_above, rest_here}
use Rattle.sheet.proofs.Laws.{group}
use Rattle.sheet.proofs.whole.lay_rest.Goals as goal

pub returns : goal.returns
returns g c =
    let met = g.met.E.Entry in
    let laws = group g.E.Entry met.associative met.commutative met.identity met.inverses in
    let y = c.args.y in
    let level = c.args.level in
    laid_renewed laws c.args.frame.width c.args.frame.height y c.args.frame.height _ _ _ (omega arith) (omega arith) c.lay_rows.ensures (with_rest y level) (rest_above y level) (λ p i j hi lo up. rest_here y level p i j lo)
