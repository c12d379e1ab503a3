use Rattle.heap_model.proofs.Returned.{dry_arena_gets_pool}
use Rattle.heap_model.proofs.dry_arena_gets_pool.Goals as goal

pub returns : goal.returns
returns c = dry_arena_gets_pool
