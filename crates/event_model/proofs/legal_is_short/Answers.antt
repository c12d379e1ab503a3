use Rattle.event_model.proofs.LeftLaws.{legal_short}
use Rattle.event_model.proofs.legal_is_short.Goals as goal

pub returns : goal.returns
returns c = legal_short
