use Rattle.event_model.proofs.NameLaws.{others_keep_theirs, only_ok_changes, calls_give, free_takes}
use Rattle.event_model.proofs.names_hold_what_they_got.Goals as goal

pub returns-clause-others : goal.returns-clause-others
returns-clause-others c = others_keep_theirs

pub returns-clause-only_ok : goal.returns-clause-only_ok
returns-clause-only_ok c = only_ok_changes

pub returns-clause-calls : goal.returns-clause-calls
returns-clause-calls c = calls_give

pub returns-clause-free : goal.returns-clause-free
returns-clause-free c = free_takes
