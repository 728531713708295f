use Rattle.questions.proofs.MeanLevels.{means}
use Rattle.questions.proofs.means.mean_law.Goals as goal

pub returns : goal.returns
returns c = means c.total_laws.ensures.law
