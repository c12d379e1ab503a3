use Rattle.heap_model.proofs.Placed.{new_pool_is_placed}
use Rattle.heap_model.proofs.new_pool_is_placed.Goals as goal

pub returns : goal.returns
returns c = new_pool_is_placed
