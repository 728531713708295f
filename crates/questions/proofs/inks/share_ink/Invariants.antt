use Rattle.questions.specs.Inks.{share_ink}
use Rattle.questions.proofs.inks.share_ink.Given as goal

abbrev pub ghost-draw_windowed : goal.ghost-draw_windowed
ghost-draw_windowed a = share_ink a.rule.0
