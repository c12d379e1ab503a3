use Rattle.heap_model.proofs.Unplaced.{freed_full_is_unplaced}
use Rattle.heap_model.proofs.freed_full_is_unplaced.Goals as goal

pub returns : goal.returns
returns c = freed_full_is_unplaced
