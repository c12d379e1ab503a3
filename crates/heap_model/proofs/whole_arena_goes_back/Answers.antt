use Rattle.heap_model.proofs.Returned.{whole_arena_goes_back}
use Rattle.heap_model.proofs.whole_arena_goes_back.Goals as goal

pub returns : goal.returns
returns c = whole_arena_goes_back
