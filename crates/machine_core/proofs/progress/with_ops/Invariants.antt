use Rattle.std.proofs.Common.{◌≡◌, filter}
use Rattle.std.specs.List.{range_with_len}
use Rattle.machine_core.proofs.UnfinishedLemmas.{has_any}
use Rattle.machine_core.proofs.progress.with_ops.Given as goal

-- the tracks so far that have operations
abbrev pub invariant-loop-t : goal.invariant-loop-t
invariant-loop-t l = l.tracks.items ≡ filter (has_any l.trace.tracks) (range_with_len 0 l.t)
