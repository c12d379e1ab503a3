use Rattle.tracing_model.proofs.CallerLemmas.{fewer_bytes, fewer_distinct, gone_at, gone_other, got_at, got_other, more_bytes, with_distinct}
use Rattle.tracing_model.proofs.keys_have_their_traces.Goals as goal

pub returns-clause-keys : goal.returns-clause-keys
returns-clause-keys c = λ ts key other t. (got_at ts key t, gone_at ts key, got_other ts key other t, gone_other ts key other)

pub returns-clause-distinct : goal.returns-clause-distinct
returns-clause-distinct c = λ ts key t are. (with_distinct ts key t are, fewer_distinct ts key are)

pub returns-clause-sums : goal.returns-clause-sums
returns-clause-sums c = λ ts key t are. (fewer_bytes ts key are, more_bytes ts key t are)
