use Rattle.heap_model.proofs.Counts.{new_arena_gives}
use Rattle.heap_model.proofs.new_arena_gives.Goals as goal

pub returns : goal.returns
returns c = new_arena_gives
