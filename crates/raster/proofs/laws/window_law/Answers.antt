use Rattle.entry.proofs.ModularSums.{sums_exact}
use Rattle.sheet.proofs.Laws.{group}
use Rattle.raster.proofs.Windows.{window_law_lem}
use Rattle.raster.proofs.laws.window_law.Goals as goal

pub returns : goal.returns
returns g c =
    let met = g.met.T.Entry in
    let counts = g.met.T.Modular in
    window_law_lem (group g.T.Entry met.associative met.commutative met.identity met.inverses) (sums_exact g.T.Entry g.T.Modular counts.empty counts.adds counts.counts counts.bounded) g.met.T.WideTally.spacious
