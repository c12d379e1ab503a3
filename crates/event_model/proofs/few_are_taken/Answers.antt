use Rattle.event_model.proofs.TakenLaws.{few_taken}
use Rattle.event_model.proofs.few_are_taken.Goals as goal

pub returns : goal.returns
returns c = few_taken
