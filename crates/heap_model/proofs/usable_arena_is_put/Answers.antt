use Rattle.heap_model.proofs.Returned.{usable_arena_is_put}
use Rattle.heap_model.proofs.usable_arena_is_put.Goals as goal

pub returns : goal.returns
returns c = usable_arena_is_put
