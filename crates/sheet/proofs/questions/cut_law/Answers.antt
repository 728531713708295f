use Rattle.sheet.proofs.Cuts.{cut_law_lem}
use Rattle.sheet.proofs.Laws.{group}
use Rattle.sheet.proofs.questions.cut_law.Goals as goal

pub returns : goal.returns
returns g c = let met = g.met.E.Entry in cut_law_lem (group g.E.Entry met.associative met.commutative met.identity met.inverses)
