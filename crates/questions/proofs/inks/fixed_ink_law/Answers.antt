use Rattle.questions.specs.Inks.{fixed_ink}
use Rattle.questions.proofs.Rules.{same_rule}
use Rattle.questions.proofs.inks.fixed_ink_law.Goals as goal

pub returns : goal.returns
returns c p = same_rule c.regions_are_exact.ensures.windows (fixed_ink p)
