use Rattle.std.proofs.Common.{◌≡◌, ◌<◌, ◌++◌, length, map}
use Rattle.std.specs.List.{AllByRecursion}
use Rattle.frame_stack.specs.Tracebacks.{traceback_at}
use Rattle.snap_stats.specs.Groups.{whole}
use Rattle.snap_stats.specs.Sums.{group_by}
use Rattle.snap_stats.proofs.groups.tracebacks_summed.Given as goal

abbrev pub invariant-loop-id : goal.invariant-loop-id
invariant-loop-id l = record {
  known : AllByRecursion (λ s. s.0.0 < length l.table) l.id-iterator;
  groups : map whole l.groups.items ++ map (group_by (traceback_at l.table)) l.id-iterator ≡ map (group_by (traceback_at l.table)) l.sums.entries;
}
