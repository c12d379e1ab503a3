use Rattle.std.proofs.Common.{◌≡◌, map, take}
use Rattle.snap_stats.specs.Pairs.{whole_change}
use Rattle.snap_stats.proofs.change_order.whole_changes.Given as goal

abbrev pub invariant-loop-change : goal.invariant-loop-change
invariant-loop-change l = l.answer ≡ map whole_change (take l.change-index l.changes)
