use Rattle.layout_model.proofs.Geometry.{pools_are_in_arenas}
use Rattle.layout_model.proofs.pools_are_in_arenas.Goals as goal

pub returns : goal.returns
returns c = pools_are_in_arenas
