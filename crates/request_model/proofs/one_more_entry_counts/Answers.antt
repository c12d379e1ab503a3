use Rattle.request_model.proofs.CallerLemmas.{asked_more, refused_more, few_asked}
use Rattle.request_model.proofs.one_more_entry_counts.Goals as goal

pub returns-clause-counts : goal.returns-clause-counts
returns-clause-counts c = λ side es e. (asked_more side es e, refused_more side es e)

pub returns-clause-few : goal.returns-clause-few
returns-clause-few c = few_asked
