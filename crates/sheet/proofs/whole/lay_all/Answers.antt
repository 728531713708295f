use Rattle.std.proofs.Common.{refl}
use Rattle.sheet.proofs.Calls.{page_laid}
use Rattle.sheet.proofs.Laws.{group}
use Rattle.sheet.proofs.whole.lay_all.Goals as goal

pub returns : goal.returns
returns g c =
    let met = g.met.E.Entry in
    let laws = group g.E.Entry met.associative met.commutative met.identity met.inverses in
    page_laid laws c.args.frame.width c.args.frame.height c.args.levels.now _ _ _ _ (λ n. refl) c.lay_blank.ensures c.lay_rows.ensures
