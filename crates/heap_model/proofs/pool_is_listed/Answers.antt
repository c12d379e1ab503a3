use Rattle.heap_model.proofs.Members.{pool_is_listed}
use Rattle.heap_model.proofs.pool_is_listed.Goals as goal

pub returns : goal.returns
returns c = pool_is_listed
