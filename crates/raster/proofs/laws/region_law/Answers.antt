use Rattle.sheet.proofs.Laws.{group}
use Rattle.raster.proofs.Regions.{region_law_lem}
use Rattle.raster.proofs.laws.region_law.Goals as goal

pub returns : goal.returns
returns g c = let met = g.met.E.Entry in region_law_lem (group g.E.Entry met.associative met.commutative met.identity met.inverses)
