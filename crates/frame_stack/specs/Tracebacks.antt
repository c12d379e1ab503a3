-- Frames as the code holds them, and a table of lists of them.
use Rattle.std.specs.Prelude.{◌≡◌, ◌⊎◌, ℕ, ◌<◌, ◌≤◌, ◌^◌, List, [], ◌∷◌, ◌++◌, length, map, slice_get, Some, unwrap_or}
use Rattle.smallvec.specs.SmallVec.{SmallVec}
use Rattle.mem_base.specs.declared.reply.Frame.{Frame}
use Rattle.frame_stack.specs.declared.tracebacks.TbId.{TbId}

-- the frame at another line
abbrev pub at_line : ℕ → Frame → Frame
at_line line f = record f { line = line }

-- the frame of a track that has none
abbrev pub unknown_frame : Frame
unknown_frame = record { file = record { 0 = 0 }; line = 0 }

-- so few frames as a trace keeps at most
abbrev pub IsShort : List Frame → Type 0
IsShort frames = length frames ≤ 2 ^ 16

-- the tracebacks that a table's keys hold
abbrev pub tracebacks_of : List (SmallVec Frame) → List (List Frame)
tracebacks_of keys = map (λ v. v.items) keys

-- no traceback stands twice
abbrev pub IsDistinct : List (List Frame) → Type 0
IsDistinct table = (i j : ℕ) (t : List Frame) → slice_get table i ≡ Some t → slice_get table j ≡ Some t → i ≡ j

-- no traceback stands twice, and each number fits
pub record IsTable (table : List (List Frame)) : Type 0 where
  pub distinct : IsDistinct table
  pub few : length table < 2 ^ 32

-- the frames that have the number
abbrev pub traceback_at : List (List Frame) → TbId → List Frame
traceback_at table id = unwrap_or (slice_get table id.0) []

-- the traceback has a number in the table
abbrev pub StandsIn : List Frame → List (List Frame) → Type 0
StandsIn t table = (i : ℕ) × (slice_get table i ≡ Some t)

-- a number means the same frames in a later table
abbrev pub KeepsNumbers : List (List Frame) → List (List Frame) → Type 0
KeepsNumbers old new = (i : ℕ) (frames : List Frame) → slice_get old i ≡ Some frames → slice_get new i ≡ Some frames

-- the table, after a traceback was sought and, where it was new, added last
abbrev pub IsInterned : List Frame → List (List Frame) → List (List Frame) → Type 0
IsInterned t old new = (StandsIn t old × (new ≡ old)) ⊎ ((StandsIn t old → ⊥) × (new ≡ old ++ t ∷ []))
