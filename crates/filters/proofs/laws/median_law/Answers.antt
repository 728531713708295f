use Rattle.filters.proofs.PixelSteps.{median_law_lem}
use Rattle.filters.proofs.laws.median_law.Goals as goal

pub returns : goal.returns
returns c = median_law_lem c.regions_are_exact.ensures.windows
