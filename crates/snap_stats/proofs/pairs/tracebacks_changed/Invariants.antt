use Rattle.std.proofs.Common.{◌≡◌, map, take}
use Rattle.frame_stack.specs.Tracebacks.{traceback_at}
use Rattle.snap_stats.specs.Pairs.{diff_by, whole_change}
use Rattle.snap_stats.proofs.pairs.tracebacks_changed.Given as goal

abbrev pub invariant-loop-pair : goal.invariant-loop-pair
invariant-loop-pair l =
    map whole_change l.changes.items ≡ map (diff_by (traceback_at l.table)) (take l.pair-index l.pairs)
