use Rattle.heap_model.proofs.Counts.{started_and_lent}
use Rattle.heap_model.proofs.started_and_lent.Goals as goal

pub returns : goal.returns
returns c = started_and_lent
