use Rattle.event_model.proofs.FaultLaws.{ends_in_fault}
use Rattle.event_model.proofs.fault_is_last.Goals as goal

pub returns : goal.returns
returns c = ends_in_fault
