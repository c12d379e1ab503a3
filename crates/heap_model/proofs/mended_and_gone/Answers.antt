use Rattle.heap_model.proofs.Counts.{mended_and_gone}
use Rattle.heap_model.proofs.mended_and_gone.Goals as goal

pub returns : goal.returns
returns c = mended_and_gone
