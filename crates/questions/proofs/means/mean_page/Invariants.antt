use Rattle.questions.specs.Means.{mean_byte}
use Rattle.questions.proofs.means.mean_page.Given as goal

abbrev pub ghost-draw_windowed : goal.ghost-draw_windowed
ghost-draw_windowed a = mean_byte
