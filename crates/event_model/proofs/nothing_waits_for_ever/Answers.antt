use Rattle.event_model.proofs.WaitLaws.{only_acquire_waits, owners_go_on, all_done}
use Rattle.event_model.proofs.nothing_waits_for_ever.Goals as goal

pub returns-clause-owners : goal.returns-clause-owners
returns-clause-owners c = owners_go_on

pub returns-clause-all : goal.returns-clause-all
returns-clause-all c = all_done

pub returns-clause-waits : goal.returns-clause-waits
returns-clause-waits c = only_acquire_waits
