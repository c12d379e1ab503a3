use Rattle.heap_model.proofs.Ground.{address_finds_pool}
use Rattle.heap_model.proofs.address_finds_pool.Goals as goal

pub returns : goal.returns
returns c = address_finds_pool
