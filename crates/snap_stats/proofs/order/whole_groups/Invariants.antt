use Rattle.std.proofs.Common.{◌≡◌, map, take}
use Rattle.snap_stats.specs.Groups.{whole}
use Rattle.snap_stats.proofs.order.whole_groups.Given as goal

abbrev pub invariant-loop-group : goal.invariant-loop-group
invariant-loop-group l = l.answer ≡ map whole (take l.group-index l.groups)
