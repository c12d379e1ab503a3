use Rattle.block_model.proofs.CallerLemmas.{carried-fresh}
use Rattle.block_model.proofs.moving_is_resizing.Goals as goal

pub returns : goal.returns
returns c = carried-fresh
