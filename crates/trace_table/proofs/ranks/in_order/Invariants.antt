use Rattle.trace_table.proofs.RankLemmas.{AreFirst}
use Rattle.trace_table.proofs.ranks.in_order.Given as goal

abbrev pub invariant-loop-id : goal.invariant-loop-id
invariant-loop-id l = AreFirst l.id l.order.items
