use Rattle.questions.proofs.MeanLevels.{mean_page_lem}
use Rattle.questions.proofs.means.mean_page_law.Goals as goal

pub returns : goal.returns
returns c = mean_page_lem c.regions_are_exact.ensures.windows
