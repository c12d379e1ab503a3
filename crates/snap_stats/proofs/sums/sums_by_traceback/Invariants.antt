use Rattle.std.proofs.Common.{take}
use Rattle.snap_stats.specs.Sums.{parts_of, same_id, AddsUp}
use Rattle.snap_stats.proofs.sums.sums_by_traceback.Given as goal

abbrev pub invariant-loop-row : goal.invariant-loop-row
invariant-loop-row l = AddsUp same_id (parts_of (take l.row-index l.rows)) l.sums.entries
