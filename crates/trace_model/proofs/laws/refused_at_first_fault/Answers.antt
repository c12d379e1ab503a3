use Rattle.trace_model.proofs.StopLaws.{refused_where}
use Rattle.trace_model.proofs.laws.refused_at_first_fault.Goals as goal

pub returns : goal.returns
returns c = refused_where
