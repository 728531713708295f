use Rattle.sheet.proofs.FourCorners.{sum_law_lem}
use Rattle.sheet.proofs.Laws.{group}
use Rattle.questions.proofs.spreads.sum_law.Goals as goal

pub returns : goal.returns
returns g c = let met = g.met.E.Entry in sum_law_lem (group g.E.Entry met.associative met.commutative met.identity met.inverses)
