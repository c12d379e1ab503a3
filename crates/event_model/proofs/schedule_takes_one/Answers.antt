use Rattle.event_model.specs.History.{opening}
use Rattle.event_model.specs.Schedule.{one_by_one}
use Rattle.event_model.proofs.ScheduleLaws.{follows_push, takes_one}
use Rattle.event_model.proofs.schedule_takes_one.Goals as goal

pub returns-clause-one : goal.returns-clause-one
returns-clause-one c = takes_one

pub returns-clause-more : goal.returns-clause-more
returns-clause-more c = λ tracks picks es e left rest follows takes. follows_push tracks (opening tracks) (one_by_one picks) es e left rest follows takes
