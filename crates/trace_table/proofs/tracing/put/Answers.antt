use Rattle.std.proofs.Common.{ap, arith, rules}
use Rattle.std.proofs.lemmas.Map.Entries.{sum_by_puts_entry}
use Rattle.trace_table.specs.Traces.{same_key, size_in}
use Rattle.trace_table.proofs.TraceLemmas.{size_is, size_within, small_put}
use Rattle.trace_table.proofs.tracing.put.Goals as goal

pub returns-clause-changes : goal.returns-clause-changes
returns-clause-changes c = record {
  its = c.in-Ok.ensures.updates.1;
  others = c.in-Ok.ensures.updates.2;
  bytes = omega (
    arith,
    sum_by_puts_entry (λ t. t.size) same_key c.args.traces.now c.insert.new.self c.args.key c.args.of c.in-Ok.old
        c.in-Ok.ensures.old c.in-Ok.ensures.entries,
    size_is c.in-Ok.old,
    ap size_in c.in-Ok.ensures.old,
  );
}

pub returns-clause-small : goal.returns-clause-small
returns-clause-small c = small_put c.args.traces.now c.insert.new.self c.args.key c.args.of c.in-Ok.old
    c.in-Ok.ensures.entries (search rules)

pub returns-clause-among : goal.returns-clause-among
returns-clause-among c = omega (
  arith,
  size_within c.args.traces.now.entries c.args.key,
  c.size_of.ensures,
  ap size_in c.in-Ok.ensures.old,
)
