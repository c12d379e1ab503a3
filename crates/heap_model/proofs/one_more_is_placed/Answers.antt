use Rattle.heap_model.proofs.Placed.{one_more_is_placed}
use Rattle.heap_model.proofs.one_more_is_placed.Goals as goal

pub returns : goal.returns
returns c = one_more_is_placed
