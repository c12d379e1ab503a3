-- What words that are still in their line stand for, and where reading stands.
use Rattle.std.specs.Prelude.{◌≡◌, ℕ, ◌+◌, ◌<◌, ◌≤◌, ◌^◌, List, ◌++◌, All, length, map}
use Rattle.std.specs.List.{AllByRecursion}
use Rattle.mem_base.specs.declared.limits.TheConstants.{MAX_DUMP_ROWS}
use Rattle.mem_base.specs.declared.reply.Frame.{Frame}
use Rattle.frame_model.specs.Frames.{PlainFrame}
use Rattle.tracing_model.specs.Traces.{of_block, of_mark, Key as TraceKey}
use Rattle.snapshot_model.specs.Snapshots.{PlainRow, PlainSnapshot}
use Rattle.dump_model.specs.Reading as reading
use Rattle.frame_stack.specs.Callers.{AreAmong}
use Rattle.frame_stack.specs.Tracebacks.{IsShort}
use Rattle.trace_table.specs.Plain.{IsHeld, IsKnownKey, plain_rows, plain_snapshot}
use Rattle.trace_table.specs.declared.snapshot.Row.{Row}
use Rattle.trace_table.specs.declared.snapshot.Snapshot.{Snapshot}
use Rattle.snap_file.specs.declared.operands.FrameText.{FrameText}
use Rattle.snap_file.specs.declared.operands.KeyText.{KeyText}
use Rattle.snap_file.specs.declared.operands.KeyText.TheVariants as keys
use Rattle.snap_file.specs.declared.rows.RowText.{RowText}
use Rattle.snap_file.specs.declared.progress.Loaded.{Loaded}
use Rattle.snap_file.specs.declared.progress.Progress.{Progress}
use Rattle.snap_file.specs.declared.progress.Stand.{Stand}
use Rattle.snap_file.specs.declared.progress.Stand.TheVariants as stands

-- ---- words of a line

abbrev pub plain_key : KeyText → TraceKey
plain_key (keys.Block name) = of_block name.now
plain_key (keys.Number domain number) = of_mark domain number

abbrev pub plain_frame : FrameText → PlainFrame
plain_frame f = record { file = f.file.now; line = f.line }

-- a trace with these frames
abbrev pub plain_text : List PlainFrame → RowText → PlainRow
plain_text frames row = record { key = plain_key row.key; size = row.size; frames = frames; total = row.total }

-- ---- where reading stands

abbrev pub plain_loaded : Loaded → List PlainSnapshot
plain_loaded l = map (plain_snapshot l.texts l.table) l.snapshots

-- with the traces of the dump that is being read
abbrev pub stand_of : List PlainRow → Stand → reading.Stand
stand_of rows stands.Between = reading.between
stand_of rows stands.InHead = reading.in_head
stand_of rows (stands.InRows limit) = reading.in_rows limit rows

abbrev pub rows_of : Progress → List PlainRow
rows_of p = plain_rows p.loaded.texts p.loaded.table p.rows

abbrev pub place_of : Progress → reading.Place
place_of p = record { done = plain_loaded p.loaded; left = p.left; at = stand_of (rows_of p) p.at }

-- ---- what is known of what was read

-- the list has so many more elements at its end, or fewer
pub record Extends {X : Type 0} (n : ℕ) (old new : List X) : Type 0 where
  pub more : List X
  pub few : length more ≤ n
  pub grown : new ≡ old ++ more

-- there are numbers for so many more texts and tracebacks
pub record HasRoom (n : ℕ) (p : Progress) : Type 0 where
  pub texts : length p.loaded.texts + n < 2 ^ 32
  pub table : length p.loaded.table + n < 2 ^ 32

-- there are at most so many more texts and tracebacks
pub record Grew (n : ℕ) (old new : Progress) : Type 0 where
  pub texts : length new.loaded.texts ≤ length old.loaded.texts + n
  pub table : length new.loaded.table ≤ length old.loaded.table + n

-- what was read before is the same, and so is where reading stands
pub record StaysThere (old new : Progress) : Type 0 where
  pub place : place_of new ≡ place_of old
  pub rows : rows_of new ≡ rows_of old
  pub at : new.at ≡ old.at

-- the names and tracebacks of the rows have numbers below these, and there are not too many rows
pub record AreKnownRows (texts traces : ℕ) (rows : List Row) : Type 0 where
  pub named : AllByRecursion (λ row. IsKnownKey texts row.key) rows
  pub traced : AllByRecursion (λ row. row.trace.0 < traces) rows
  pub few : length rows ≤ MAX_DUMP_ROWS

-- the files of all tracebacks have numbers below this, and no traceback is too long
pub record AreKnownFrames (texts : ℕ) (table : List (List Frame)) : Type 0 where
  pub among : AllByRecursion (AreAmong texts) table
  pub short : AllByRecursion IsShort table

-- the rows of all snapshots and of the dump that is being read are known, and all tracebacks are
pub record IsKnownSoFar (p : Progress) : Type 0 where
  pub snapshots : AllByRecursion
      (λ (s : Snapshot). AreKnownRows (length p.loaded.texts) (length p.loaded.table) s.rows) p.loaded.snapshots
  pub rows : AreKnownRows (length p.loaded.texts) (length p.loaded.table) p.rows
  pub frames : AreKnownFrames (length p.loaded.texts) p.loaded.table

-- the rows of each snapshot have their names and frames in the tables
pub record IsLoaded (l : Loaded) : Type 0 where
  pub held : All (λ (s : Snapshot). IsHeld l.texts l.table s.rows) l.snapshots
  pub named : All (λ (s : Snapshot). All (λ (row : Row). IsKnownKey (length l.texts) row.key) s.rows) l.snapshots
