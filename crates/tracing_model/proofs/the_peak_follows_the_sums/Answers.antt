use Rattle.tracing_model.proofs.CallerLemmas.{peak_begins, peak_rises}
use Rattle.tracing_model.proofs.the_peak_follows_the_sums.Goals as goal

pub returns-clause-rises : goal.returns-clause-rises
returns-clause-rises c = peak_rises

pub returns-clause-begins : goal.returns-clause-begins
returns-clause-begins c = peak_begins
