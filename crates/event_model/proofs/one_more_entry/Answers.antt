use Rattle.event_model.specs.History.{opening}
use Rattle.event_model.proofs.HistoryLaws.{legal_push, state_push}
use Rattle.event_model.proofs.LeftLaws.{leaves_less}
use Rattle.event_model.proofs.one_more_entry.Goals as goal

pub returns-clause-legal : goal.returns-clause-legal
returns-clause-legal c = λ tracks es e legal next. legal_push tracks (opening tracks) es e legal next

pub returns-clause-state : goal.returns-clause-state
returns-clause-state c = λ tracks es e. state_push tracks (opening tracks) es e

pub returns-clause-less : goal.returns-clause-less
returns-clause-less c = λ tracks es e next. leaves_less tracks es e next
