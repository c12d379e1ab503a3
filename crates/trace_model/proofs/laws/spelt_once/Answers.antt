use Rattle.trace_model.proofs.TraceLaws.{spelt_once_lem}
use Rattle.trace_model.proofs.laws.spelt_once.Goals as goal

pub returns : goal.returns
returns c = spelt_once_lem
