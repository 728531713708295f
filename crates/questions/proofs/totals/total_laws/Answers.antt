use Rattle.entry.proofs.ModularSums.{sums_exact}
use Rattle.sheet.proofs.Laws.{group}
use Rattle.sheet.proofs.Runs.{runs_agree}
use Rattle.questions.proofs.Exactness.{total_law}
use Rattle.questions.proofs.totals.total_laws.Goals as goal

pub returns : goal.returns
returns g c =
    let k = g.T.Entry in
    let m = g.T.Modular in
    let met = g.met.T.Entry in
    let counts = g.met.T.Modular in
    let laws = group k met.associative met.commutative met.identity met.inverses in
    record { law = total_law laws (sums_exact k m counts.empty counts.adds counts.counts counts.bounded); runs = runs_agree laws }
