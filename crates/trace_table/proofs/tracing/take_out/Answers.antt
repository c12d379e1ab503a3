use Rattle.std.proofs.Common.{ap, arith, length}
use Rattle.std.proofs.lemmas.Map.Entries.{sum_by_values_permutation, sum_by-remove_entry}
use Rattle.trace_table.specs.Traces.{same_key, size_in, trace_at}
use Rattle.trace_table.proofs.TraceLemmas.{no_traces, size_is, size_within, small_gone}
use Rattle.trace_table.proofs.tracing.take_out.Goals as goal

pub returns-clause-changes : goal.returns-clause-changes
returns-clause-changes c = record {
  its = c.remove.ensures.updates.1;
  others = c.remove.ensures.updates.2;
  bytes = omega (
    arith,
    sum_by_values_permutation (λ t. t.size) _ _ c.remove.ensures.entries,
    sum_by-remove_entry (λ t. t.size) (same_key c.args.key) c.args.traces.now.entries,
    size_is (trace_at c.args.traces.now.entries c.args.key),
  );
}

pub returns-clause-small : goal.returns-clause-small
returns-clause-small c = small_gone c.args.traces.now.entries c.remove.new.self.entries c.args.key c.remove.ensures.entries

pub returns-clause-among : goal.returns-clause-among
returns-clause-among c = omega (
  arith,
  size_within c.args.traces.now.entries c.args.key,
  c.size_of.ensures,
  ap size_in c.remove.ensures.value,
)

pub returns-clause-nothing : goal.returns-clause-nothing
returns-clause-nothing c = λ none. no_traces c.remove.new.self.entries (omega (arith, c.remove.ensures.len, ap length none))
