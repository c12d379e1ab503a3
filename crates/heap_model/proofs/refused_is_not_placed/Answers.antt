use Rattle.heap_model.proofs.Placed.{refused_is_not_placed}
use Rattle.heap_model.proofs.refused_is_not_placed.Goals as goal

pub returns : goal.returns
returns c = refused_is_not_placed
