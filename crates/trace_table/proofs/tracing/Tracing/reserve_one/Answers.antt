use Rattle.std.proofs.Common.{◌∙◌, arith, refl, sym, ap, subst, length}
use Rattle.std.proofs.lemmas.Map.Entries.{sum_by_values_permutation}
use Rattle.std.specs.HashMap.{hash_map_len, spare}
use Rattle.trace_table.specs.Tracing.{HoldsTheSame, TracingView, room}
use Rattle.trace_table.proofs.TraceLemmas.{no_traces, small_moved, still_idle}
use Rattle.trace_table.proofs.tracing.Tracing.reserve_one.Goals as goal

pub invariant_of-self : goal.invariant_of-self
invariant_of-self c =
    let t = c.self.inside in
    let moved = c.reserve.ensures.entries in
    record {
      sum = c.self.invariant.sum ∙ sym (sum_by_values_permutation (λ x. x.size) t.traces.entries
          c.reserve.new.self.entries moved.0);
      below = c.self.invariant.below;
      small = small_moved t.traces.entries c.reserve.new.self.entries moved.0 c.self.invariant.small;
      few = omega (arith, c.self.invariant.few, moved.1);
      idle = still_idle t.limit (λ idle. (no_traces c.reserve.new.self.entries (moved.1 ∙ ap length idle.0), idle.1))
          c.self.invariant.idle;
    }

pub returns-clause-same : goal.returns-clause-same
returns-clause-same c =
    let t = c.self.inside in
    let moved = c.reserve.ensures.entries in
    subst (λ (m : TracingView). HoldsTheSame m (record {
      limit = t.limit;
      traces = c.reserve.new.self.entries;
      peak = t.peak;
      spare = room (spare c.reserve.new.self) (hash_map_len c.reserve.new.self);
    })) c.self.view_is (record {
      limit = refl;
      each = moved.2;
      bytes = sum_by_values_permutation (λ x. x.size) t.traces.entries c.reserve.new.self.entries moved.0;
      peak = refl;
    })
