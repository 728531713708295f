use Rattle.sheet.proofs.Edits.{edit_law}
use Rattle.sheet.proofs.Laws.{group}
use Rattle.sheet.proofs.whole.rewrite.Goals as goal

pub returns : goal.returns
returns g c =
    let met = g.met.E.Entry in
    let laws = group g.E.Entry met.associative met.commutative met.identity met.inverses in
    edit_law laws c.args.frame.width c.args.frame.height c.args.rect c.args.fill _ _ _ _ c.requires.on c.carry.ensures c.rewrite_rows.ensures c.carry-2.ensures
