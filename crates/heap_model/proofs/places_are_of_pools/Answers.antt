use Rattle.heap_model.proofs.Members.{places_are_of_pools}
use Rattle.heap_model.proofs.places_are_of_pools.Goals as goal

pub returns : goal.returns
returns c = places_are_of_pools
