use Rattle.questions.specs.Inks.{fixed_ink}
use Rattle.questions.proofs.inks.fixed_ink.Given as goal

abbrev pub ghost-draw_windowed : goal.ghost-draw_windowed
ghost-draw_windowed a = fixed_ink a.rule.0
