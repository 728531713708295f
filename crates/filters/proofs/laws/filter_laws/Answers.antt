use Rattle.filters.proofs.Adjunction as adjunction
use Rattle.filters.proofs.laws.filter_laws.Goals as goal

pub returns : goal.returns
returns c = adjunction.filter_laws_lem
