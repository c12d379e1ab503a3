use Rattle.request_model.proofs.DecisionLaws.{too_great_exactly, faults_exactly, asks_exactly}
use Rattle.request_model.proofs.sizes_and_faults_decide.Goals as goal

pub returns-clause-too_great : goal.returns-clause-too_great
returns-clause-too_great c = too_great_exactly

pub returns-clause-faults : goal.returns-clause-faults
returns-clause-faults c = faults_exactly

pub returns-clause-asks : goal.returns-clause-asks
returns-clause-asks c = asks_exactly
