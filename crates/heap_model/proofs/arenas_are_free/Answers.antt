use Rattle.heap_model.proofs.Counts.{arenas_are_free}
use Rattle.heap_model.proofs.arenas_are_free.Goals as goal

pub returns : goal.returns
returns c = arenas_are_free
