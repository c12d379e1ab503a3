-- What a snapshot's rows count for: each row once for its key, or once for each of its frames.
use Rattle.std.specs.Prelude.{ℕ, Bool, List, [], ◌∷◌, ◌++◌, map}
use Rattle.mem_base.specs.declared.trace.KeyKind.{KeyKind}
use Rattle.mem_base.specs.declared.trace.KeyKind.TheVariants.{Filename, Lineno, Traceback}
use Rattle.frame_model.specs.Frames.{PlainFrame}
use Rattle.snapshot_model.specs.Snapshots.{PlainRow}
use Rattle.snapshot_model.specs.Rules.{frames_seen}

-- what rows are grouped by: a list of frames, the oldest first
abbrev pub Key : Type 0
Key = List PlainFrame

-- a row's size, once for a key
pub record Occurrence : Type 0 where
  pub key : Key
  pub size : ℕ

-- the frame's file alone, with line 0
abbrev pub file_key : PlainFrame → Key
file_key f = record f { line = 0 } ∷ []

-- the frame alone
abbrev pub line_key : PlainFrame → Key
line_key f = f ∷ []

-- the keys that a row with these frames counts for: those of all kept frames where it is cumulative, else that of
-- the most recent one; a traceback is one key in either case
abbrev pub keys_of : KeyKind → Bool → List PlainFrame → List Key
keys_of Filename cumulative frames = map file_key (frames_seen cumulative frames)
keys_of Lineno cumulative frames = map line_key (frames_seen cumulative frames)
keys_of Traceback cumulative frames = frames ∷ []

-- what one row counts for
abbrev pub row_occurrences : KeyKind → Bool → PlainRow → List Occurrence
row_occurrences kind cumulative row =
    map (λ k. record { key = k; size = row.size }) (keys_of kind cumulative row.frames)

-- what all rows count for
abbrev pub occurrences : KeyKind → Bool → List PlainRow → List Occurrence
occurrences kind cumulative [] = []
occurrences kind cumulative (row ∷ rows) =
    row_occurrences kind cumulative row ++ occurrences kind cumulative rows
