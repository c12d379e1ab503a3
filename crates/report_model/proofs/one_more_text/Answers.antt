use Rattle.report_model.proofs.CallerLemmas.{one_more}
use Rattle.report_model.proofs.one_more_text.Goals as goal

pub returns : goal.returns
returns c = one_more
