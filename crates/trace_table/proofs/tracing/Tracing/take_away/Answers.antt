use Rattle.std.proofs.Common.{arith}
use Rattle.trace_table.proofs.TraceLemmas.{still_idle}
use Rattle.trace_table.proofs.tracing.Tracing.take_away.Goals as goal

pub invariant_of-self : goal.invariant_of-self
invariant_of-self c =
    let t = c.self.inside in
    record {
      sum = c.bytes_then-self-inside.ensures;
      below = omega (
        arith,
        c.self.invariant.below,
        c.self.invariant.sum,
        c.bytes_then-self-inside.ensures,
        c.take_out-gone.ensures.changes.bytes,
      );
      small = c.take_out-gone.ensures.small c.self.invariant.small;
      few = omega (arith, c.self.invariant.few, c.take_out-gone.ensures.none);
      idle = still_idle t.limit (λ idle. (c.take_out-gone.ensures.nothing idle.0, idle.1)) c.self.invariant.idle;
    }
