use Rattle.snap_stats.proofs.Framing.{IsOnTheWay}
use Rattle.snap_stats.proofs.sums.spread.Given as goal

abbrev pub invariant-loop-id : goal.invariant-loop-id
invariant-loop-id l = IsOnTheWay l.by_line l.cumulative l.table l.fn.sums.entries l.id-iterator l.by_frame.entries
