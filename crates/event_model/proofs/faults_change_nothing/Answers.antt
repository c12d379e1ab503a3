use Rattle.event_model.proofs.FaultLaws.{fault_keeps, others_keep}
use Rattle.event_model.proofs.faults_change_nothing.Goals as goal

pub returns-clause-fault : goal.returns-clause-fault
returns-clause-fault c = fault_keeps

pub returns-clause-others : goal.returns-clause-others
returns-clause-others c = others_keep
