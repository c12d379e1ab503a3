-- What is asked of files and of tracebacks by number, and what is known of the answers.
use Rattle.std.specs.Prelude.{◌≡◌, ℕ, Bool, List, Option, Some, None, length, slice_index_or, All}
use Rattle.std.specs.List.{list_any}
use Rattle.mem_base.specs.Name.{Name}
use Rattle.mem_base.specs.Texts.{text_at}
use Rattle.mem_base.specs.declared.reply.Frame.{Frame}
use Rattle.mem_base.specs.declared.texts.TextId.{TextId}
use Rattle.frame_model.specs.Frames.{frames_of}
use Rattle.frame_stack.specs.Callers.{AreAmong}
use Rattle.frame_stack.specs.Tracebacks.{traceback_at}
use Rattle.frame_stack.specs.declared.tracebacks.TbId.{TbId}
use Rattle.pattern_model.specs.Patterns.{Part, as_source, matches, parts_of}
use Rattle.snapshot_model.specs.Rules.{frame_fits, frames_seen}

-- there is room for so many answers, and each that is known is the right one
pub record AreRight (answer : ℕ → Bool) (many : ℕ) (known : List (Option Bool)) : Type 0 where
  pub room : length known ≡ many
  pub each : (n : ℕ) (b : Bool) → slice_index_or known n None ≡ Some b → b ≡ answer n

-- ---- files

-- which of these files match the pattern
pub record AskedOfFiles : Type 0 where
  pub pattern : List ℕ
  pub texts : List Name

-- whether the pattern matches the file
abbrev pub file_matches : AskedOfFiles → TextId → Bool
file_matches asked file = matches asked.pattern (text_at asked.texts file)

-- the parts are those of the pattern, and what is known of the files is right
pub record IsMatcher (asked : AskedOfFiles) (parts : List Part) (known : List (Option Bool)) : Type 0 where
  pub read : parts ≡ parts_of (as_source asked.pattern)
  pub right : AreRight (λ n. file_matches asked (record { 0 = n })) (length asked.texts) known

-- ---- tracebacks

-- which of these tracebacks have a frame of the line, or of any line, in a file that is asked for: among all
-- their frames, or only the most recent one
pub record AskedOfTraces : Type 0 where
  pub files : AskedOfFiles
  pub line : Option ℕ
  pub all_frames : Bool
  pub table : List (List Frame)

-- whether a frame of the traceback that is looked at fits
abbrev pub trace_fits : AskedOfTraces → TbId → Bool
trace_fits asked trace =
    list_any (frame_fits asked.line asked.files.pattern)
    (frames_seen asked.all_frames (frames_of asked.files.texts (traceback_at asked.table trace)))

-- the frames are of files of the table, and what is known of the tracebacks is right
pub record IsFrameTest (asked : AskedOfTraces) (known : List (Option Bool)) : Type 0 where
  pub among : All (AreAmong (length asked.files.texts)) asked.table
  pub right : AreRight (λ n. trace_fits asked (record { 0 = n })) (length asked.table) known
