use Rattle.tracing_model.proofs.CallerLemmas.{only_starts}
use Rattle.tracing_model.proofs.only_a_start_begins.Goals as goal

pub returns : goal.returns
returns c = only_starts
