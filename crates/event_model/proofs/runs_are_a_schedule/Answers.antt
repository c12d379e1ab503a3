use Rattle.event_model.proofs.ScheduleLaws.{legal_follows, runs_differ, runs_some, runs_spell}
use Rattle.event_model.proofs.runs_are_a_schedule.Goals as goal

pub returns-clause-stretches : goal.returns-clause-stretches
returns-clause-stretches c = λ es. (runs_spell es, runs_differ es, runs_some es)

pub returns-clause-follows : goal.returns-clause-follows
returns-clause-follows c = legal_follows
