use Rattle.questions.proofs.Variance.{spread_law_lem}
use Rattle.questions.proofs.spreads.spread_law.Goals as goal

pub returns : goal.returns
returns c = spread_law_lem c.sums_are_exact.ensures.whole c.sums_are_exact.ensures.energy c.sum_law.ensures
