use Rattle.block_model.proofs.CallerLemmas.{size-resized}
use Rattle.block_model.proofs.resizing_gives_the_size.Goals as goal

pub returns : goal.returns
returns c = size-resized
