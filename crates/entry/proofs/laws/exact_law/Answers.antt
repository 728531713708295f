use Rattle.entry.proofs.ModularSums.{sums_exact}
use Rattle.entry.proofs.laws.exact_law.Goals as goal

pub returns : goal.returns
returns g c = let laws = g.met.M.Modular in sums_exact g.M.Entry g.M.Modular laws.empty laws.adds laws.counts laws.bounded
