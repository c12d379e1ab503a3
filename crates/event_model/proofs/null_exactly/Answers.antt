use Rattle.event_model.proofs.EventLaws.{null_for, null_where}
use Rattle.event_model.proofs.null_exactly.Goals as goal

pub returns : goal.returns
returns c = λ tracks s e next. (null_for tracks s e next, null_where tracks s e next)
