use Rattle.heap_model.proofs.Ground.{pools_do_not_meet}
use Rattle.heap_model.proofs.pools_do_not_meet.Goals as goal

pub returns : goal.returns
returns c = pools_do_not_meet
