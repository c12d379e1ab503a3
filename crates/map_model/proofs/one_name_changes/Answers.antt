use Rattle.map_model.proofs.CallerLemmas.{find-hold_same, find-hold_other, hold_distinct, sum_hold}
use Rattle.map_model.proofs.one_name_changes.Goals as goal

pub returns-clause-given : goal.returns-clause-given
returns-clause-given g c = find-hold_same

pub returns-clause-others : goal.returns-clause-others
returns-clause-others g c = find-hold_other

pub returns-clause-distinct : goal.returns-clause-distinct
returns-clause-distinct g c = hold_distinct

pub returns-clause-sums : goal.returns-clause-sums
returns-clause-sums g c = sum_hold
