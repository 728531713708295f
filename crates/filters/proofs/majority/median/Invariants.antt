use Rattle.filters.specs.Steps.{majority}
use Rattle.filters.proofs.majority.median.Given as goal

abbrev pub ghost-draw_windowed : goal.ghost-draw_windowed
ghost-draw_windowed a = majority
