use Rattle.layout_model.proofs.Examples.{arenas_rise_in_free_pools}
use Rattle.layout_model.proofs.arenas_rise_in_free_pools.Goals as goal

pub returns : goal.returns
returns c = arenas_rise_in_free_pools
