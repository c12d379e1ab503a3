-- Which tracks have operations left, and when a machine's list has them.
use Rattle.std.specs.Prelude.{◌≡◌, ℕ, Bool, List, length, filter, slice_index, is_some}
use Rattle.std.specs.List.{range_with_len}
use Rattle.mem_base.specs.declared.trace.Trace.{Trace}
use Rattle.trace_model.specs.Known.{op_at}
use Rattle.machine_core.specs.declared.progress.Progress.{Progress}

-- the track has an operation left, where each has done so many
abbrev pub has_more : Trace → List ℕ → ℕ → Bool
has_more trace done t = is_some (op_at trace.tracks t (slice_index done t))

-- the tracks that have operations left, in rising order
abbrev pub unfinished : Trace → List ℕ → List ℕ
unfinished trace done = filter (has_more trace done) (range_with_len 0 (length trace.tracks))

-- each track has its count, and the list has the tracks that have operations left
pub record IsProgress (trace : Trace) (now : Progress) : Type 0 where
  pub tracks : length now.done.items ≡ length trace.tracks
  pub left : now.unfinished.items ≡ unfinished trace now.done.items
