use Rattle.heap_model.proofs.Counts.{lists_have_open_pools}
use Rattle.heap_model.proofs.lists_have_open_pools.Goals as goal

pub returns : goal.returns
returns c = lists_have_open_pools
