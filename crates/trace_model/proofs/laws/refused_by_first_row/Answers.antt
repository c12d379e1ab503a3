use Rattle.trace_model.proofs.CauseLaws.{first_row_is_cause}
use Rattle.trace_model.proofs.laws.refused_by_first_row.Goals as goal

pub returns : goal.returns
returns c = first_row_is_cause
