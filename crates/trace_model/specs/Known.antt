-- What a machine needs of the trace that it runs.
use Rattle.std.specs.Prelude.{◌≡◌, ℕ, ◌<◌, ◌≤◌, List, length, sum_by, slice_get, Option, Some}
use Rattle.std.specs.Option.{option_and_then}
use Rattle.mem_base.specs.Name.{Name}
use Rattle.mem_base.specs.declared.limits.TheConstants.{MAX_OPS, MAX_TRACKS}
use Rattle.mem_base.specs.declared.texts.TextId.{TextId}
use Rattle.mem_base.specs.declared.trace.Op.{Op}
use Rattle.mem_base.specs.declared.trace.Track.{Track}
use Rattle.mem_base.specs.declared.trace.Trace.{Trace}
use Rattle.trace_model.specs.Plain.{IsKnownAmong}

-- the number is in the table
abbrev pub IsKnown : List Name → TextId → Type 0
IsKnown texts id = id.0 < length texts

-- one of the operations that a trace may have, with its name in the table
abbrev pub IsKnownOp : List Name → Op → Type 0
IsKnownOp texts op = IsKnownAmong (length texts) op

-- the operation of a track at an index
abbrev pub op_at : List Track → ℕ → ℕ → Option Op
op_at tracks t at = option_and_then (λ track. slice_get track.ops at) (slice_get tracks t)

-- how many operations there are over all tracks
abbrev pub op_count : List Track → ℕ
op_count tracks = sum_by (λ t. length t.ops) tracks

-- each number is in the table, each operation is known, and there are not too many
pub record IsKnownTrace (trace : Trace) : Type 0 where
  pub few : length trace.tracks ≤ MAX_TRACKS
  pub names : (t : ℕ) (track : Track) → slice_get trace.tracks t ≡ Some track → IsKnown trace.texts track.name
  pub ops : (t at : ℕ) (op : Op) → op_at trace.tracks t at ≡ Some op → IsKnownOp trace.texts op × (at < MAX_OPS)
  pub count : op_count trace.tracks ≤ MAX_OPS
