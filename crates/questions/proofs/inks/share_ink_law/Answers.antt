use Rattle.questions.specs.Inks.{share_ink}
use Rattle.questions.proofs.Rules.{same_rule}
use Rattle.questions.proofs.inks.share_ink_law.Goals as goal

pub returns : goal.returns
returns c p = same_rule c.regions_are_exact.ensures.windows (share_ink p)
