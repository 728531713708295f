use Rattle.filters.proofs.PixelSteps.{step_law_lem}
use Rattle.filters.proofs.laws.step_law.Goals as goal

pub returns : goal.returns
returns c = step_law_lem c.regions_are_exact.ensures.regions c.sums_are_exact.ensures.ink
