use Rattle.std.proofs.Common.{arith}
use Rattle.trace_table.proofs.TraceLemmas.{bytes_fit}
use Rattle.trace_table.proofs.tracing.bytes_then.Goals as goal

pub overflow_add-result : goal.overflow_add-result
overflow_add-result c =
    let fit = bytes_fit c.args.traces.now.entries c.requires.small
    (omega (arith, c.len-count.ensures.len, c.len-count.ensures.small)) in
    omega (arith, fit, c.requires.were, c.requires.change, c.from.ensures, c.from-2.ensures)
