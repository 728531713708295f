use Rattle.sheet.proofs.Laws.{group}
use Rattle.sheet.proofs.FourCorners.{sum_law_lem}
use Rattle.sheet.proofs.Runs.{runs_agree}
use Rattle.sheet.proofs.questions.sum_laws.Goals as goal

pub returns : goal.returns
returns g c =
    let met = g.met.E.Entry in
    let laws = group g.E.Entry met.associative met.commutative met.identity met.inverses in
    record { law = sum_law_lem laws; runs = runs_agree laws }
