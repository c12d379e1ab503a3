-- The frames of the tracks: what calls, lines and returns do to those of one track.
use Rattle.std.specs.Prelude.{ℕ, List, [], slice_get, slice_set, unwrap_or}
use Rattle.mem_base.specs.Name.{Name}
use Rattle.frame_model.specs.Frames.{PlainFrame, frames_on, frames_with}

-- the frames of a track
abbrev pub frames_at : List (List PlainFrame) → ℕ → List PlainFrame
frames_at frames t = unwrap_or (slice_get frames t) []

-- the frames of all tracks, where those of one come to be so
abbrev pub frames_then : List (List PlainFrame) → ℕ → (List PlainFrame → List PlainFrame) → List (List PlainFrame)
frames_then frames t f = slice_set frames t (f (frames_at frames t))

-- a call: one more frame
abbrev pub with_call : Name → ℕ → List PlainFrame → List PlainFrame
with_call file line frames = frames_with frames (record { file = file; line = line })

-- the most recent frame goes on to another line; where there is none, nothing changes
abbrev pub with_line : ℕ → List PlainFrame → List PlainFrame
with_line line frames = frames_on (λ f. record f { line = line }) frames
