-- What keys, traces and snapshots of the code stand for: the names of texts and the frames of tracebacks written out.
use Rattle.std.specs.Prelude.{◌≡◌, ℕ, ◌<◌, ◌≤◌, ◌^◌, List, All, length, map, Some}
use Rattle.extents.specs.Sums.{Has}
use Rattle.mem_base.specs.Name.{Name}
use Rattle.mem_base.specs.Texts.{text_at}
use Rattle.mem_base.specs.declared.reply.Frame.{Frame}
use Rattle.frame_model.specs.Frames.{frames_of}
use Rattle.tracing_model.specs.Traces.{Key, of_block, of_mark, TraceOf}
use Rattle.snapshot_model.specs.Order.{Rises}
use Rattle.snapshot_model.specs.Snapshots.{PlainRow, PlainSnapshot, trace_cmp}
use Rattle.frame_stack.specs.Callers.{AreAmong}
use Rattle.frame_stack.specs.Tracebacks.{traceback_at}
use Rattle.trace_table.specs.Traces.{trace_at}
use Rattle.trace_table.specs.Tracing.{TracingView}
use Rattle.trace_table.specs.declared.key.TraceKey.{TraceKey}
use Rattle.trace_table.specs.declared.key.TraceKey.TheVariants as keys
use Rattle.trace_table.specs.declared.key.TraceOf.{TraceOf as Stored}
use Rattle.trace_table.specs.declared.snapshot.Row.{Row}
use Rattle.trace_table.specs.declared.snapshot.Snapshot.{Snapshot}

-- ---- keys and traces

-- the key by name that a key by number stands for
abbrev pub key_of : List Name → TraceKey → Key
key_of texts (keys.Block name) = of_block (text_at texts name)
key_of texts (keys.Number domain number) = of_mark domain number

-- the key is a marked number, or its block's name has a number below this
abbrev pub IsKnownKey : ℕ → TraceKey → Type 0
IsKnownKey texts (keys.Block name) = name.0 < texts
IsKnownKey texts (keys.Number domain number) = Unit {0}

-- the trace that a stored one stands for
abbrev pub trace_of : List Name → List (List Frame) → Stored → TraceOf
trace_of texts table of = record {
  size = of.size;
  frames = frames_of texts (traceback_at table of.trace);
  total = of.total;
}

-- ---- snapshots

-- the row with its names and frames
abbrev pub plain_row : List Name → List (List Frame) → Row → PlainRow
plain_row texts table row = record {
  key = key_of texts row.key;
  size = row.size;
  frames = frames_of texts (traceback_at table row.trace);
  total = row.total;
}

abbrev pub plain_rows : List Name → List (List Frame) → List Row → List PlainRow
plain_rows texts table rows = map (plain_row texts table) rows

-- the snapshot with names and frames
abbrev pub plain_snapshot : List Name → List (List Frame) → Snapshot → PlainSnapshot
plain_snapshot texts table s = record { limit = s.limit; rows = plain_rows texts table s.rows }

-- each row's traceback has a number in the table
abbrev pub AreTraced : List (List Frame) → List Row → Type 0
AreTraced table rows = All (λ row. row.trace.0 < length table) rows

-- the rows are few and have their tracebacks in the table, whose files have names and whose frames are few
pub record IsHeld (texts : List Name) (table : List (List Frame)) (rows : List Row) : Type 0 where
  pub few : length rows < 2 ^ 32
  pub traced : AreTraced table rows
  pub among : All (AreAmong (length texts)) table
  pub short : All (λ frames. length frames ≤ 2 ^ 16) table

-- ---- what a snapshot takes of a table of traces

-- the row of a trace under a key
abbrev pub row_of : TraceKey → Stored → Row
row_of key of = record { key = key; size = of.size; trace = of.trace; total = of.total }

-- the trace that a row has
abbrev pub stored_of : Row → Stored
stored_of row = record { size = row.size; trace = row.trace; total = row.total }

-- the rows are the traces, each under its key, few enough to be numbered, and rise by the names and numbers of
-- their keys
pub record IsTaken (texts : List Name) (t : TracingView) (s : Snapshot) : Type 0 where
  pub limit : t.limit ≡ Some s.limit
  pub each : (row : Row) → Has row s.rows → trace_at t.traces row.key ≡ Some (stored_of row)
  pub all : (key : TraceKey) (of : Stored) → trace_at t.traces key ≡ Some of → Has (row_of key of) s.rows
  pub rises : Rises (λ (a : Row) (b : Row). trace_cmp (key_of texts a.key) (key_of texts b.key)) s.rows
  pub few : length s.rows < 2 ^ 32
