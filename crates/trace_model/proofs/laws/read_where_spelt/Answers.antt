use Rattle.trace_model.proofs.TraceLaws.{trace_takes, read_back}
use Rattle.trace_model.proofs.laws.read_where_spelt.Goals as goal

pub returns : goal.returns
returns c = λ bytes t. (trace_takes bytes t, λ (well, is). read_back bytes t well is)
