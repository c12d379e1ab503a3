use Rattle.heap_model.proofs.Returned.{pool_comes_back}
use Rattle.heap_model.proofs.pool_comes_back.Goals as goal

pub returns : goal.returns
returns c = pool_comes_back
