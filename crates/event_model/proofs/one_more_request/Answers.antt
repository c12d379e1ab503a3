use Rattle.event_model.proofs.PlanLaws.{planned_more, heeds_more}
use Rattle.event_model.proofs.one_more_request.Goals as goal

pub returns-clause-planned : goal.returns-clause-planned
returns-clause-planned c = planned_more

pub returns-clause-heeds : goal.returns-clause-heeds
returns-clause-heeds c = heeds_more
