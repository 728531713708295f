use Rattle.filters.proofs.TwoSteps.{two_step_law_lem}
use Rattle.filters.proofs.laws.two_step_law.Goals as goal

pub returns : goal.returns
returns c = two_step_law_lem c.step_law.ensures
