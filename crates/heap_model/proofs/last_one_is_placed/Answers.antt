use Rattle.heap_model.proofs.Placed.{last_one_is_placed}
use Rattle.heap_model.proofs.last_one_is_placed.Goals as goal

pub returns : goal.returns
returns c = last_one_is_placed
