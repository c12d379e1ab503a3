-- What an operation comes to. Calls for a block are of one kind here, and so are those of frames and of tracing; all
-- else that depends on which operation comes is said of these. One more operation has one more line in deed_of.
use Rattle.std.specs.Prelude.{ℕ, ◌*◌, ℤ, Bool, true, false, List}
use Rattle.mem_base.specs.Name.{Name}
use Rattle.mem_base.specs.declared.trace.Letter.{Letter}
use Rattle.mem_base.specs.declared.trace.Rule.{Rule}
use Rattle.mem_base.specs.declared.trace.Side.{Side}
use Rattle.block_model.specs.Block.{new_byte}
use Rattle.frame_model.specs.Frames.{PlainFrame, frames_below}
use Rattle.tracing_model.specs.Traces.{of_mark}
use Rattle.tracing_model.specs.Tracing.{Change, gets, forgets, starts, stops, clears, resets}
use Rattle.trace_model.specs.Plain.{Action, acquire, release, malloc, calloc, realloc, free, poke, peek}
use Rattle.trace_model.specs.Plain.{enter, go_to, leave}
use Rattle.trace_model.specs.Plain.{start_tracing, stop_tracing, clear_traces, reset_peak, traced_memory}
use Rattle.trace_model.specs.Plain.{mark, unmark, origin, snapshot, keep, stats, compare, dump}
use Rattle.trace_model.specs.Plain.{heap, refuse}
use Rattle.event_model.specs.Frames.{with_call, with_line}
use Rattle.event_model.specs.Memory.{SizedCall}
use Rattle.event_model.specs.Snapshots.{Question, groups_of, changes_between, text_of}

-- ---- calls for a block

-- malloc of n bytes
abbrev pub malloc_call : Letter → ℕ → SizedCall
malloc_call v n = record { letter = v; size = n; fill = new_byte; goes_on = false }

-- calloc of so many elements of n bytes: its size is their product, however great
abbrev pub calloc_call : Letter → ℕ → ℕ → SizedCall
calloc_call v count n = record { letter = v; size = count * n; fill = 0; goes_on = false }

-- realloc to n bytes
abbrev pub realloc_call : Letter → ℕ → SizedCall
realloc_call v n = record { letter = v; size = n; fill = new_byte; goes_on = true }

-- ---- deeds

pub data Deed : Type 0 where
  -- the lock is taken, or given up
  takes_lock : Deed
  gives_lock : Deed
  -- a call for the block of a name
  calls : Name → SizedCall → Deed
  -- the block of a name is given up, by a call of a domain
  frees : Letter → Name → Deed
  -- bytes of a block are written, or read
  writes_bytes : Name → (offset : ℤ) → (new : List ℕ) → Deed
  reads_bytes : Name → (offset : ℤ) → (count : ℕ) → Deed
  -- the frames of the track change so
  moves : (List PlainFrame → List PlainFrame) → Deed
  -- what is traced changes so
  changes : Change → Deed
  -- the same of a marked number, which only tracing knows
  marks : Change → Deed
  -- how much is traced is asked, or what stands under a block's name
  asks_traced : Deed
  asks_trace : Name → Deed
  -- what is traced is kept under a name, or what rules leave of the second snapshot under the first name
  takes_snapshot : Name → Deed
  keeps_by : (new old : Name) → List Rule → Deed
  -- something is asked of the snapshots
  asks_snapshots : Question → Deed
  -- the heap's shape is asked
  asks_shape : Deed
  -- a source is to refuse a request
  lists_request : Side → ℕ → Deed

abbrev pub deed_of : Action → Deed
deed_of acquire = takes_lock
deed_of release = gives_lock
deed_of (malloc v name n) = calls name (malloc_call v n)
deed_of (calloc v name count n) = calls name (calloc_call v count n)
deed_of (realloc v name n) = calls name (realloc_call v n)
deed_of (free v name) = frees v name
deed_of (poke name offset new) = writes_bytes name offset new
deed_of (peek name offset count) = reads_bytes name offset count
deed_of (enter file line) = moves (with_call file line)
deed_of (go_to line) = moves (with_line line)
deed_of leave = moves frames_below
deed_of (start_tracing limit) = changes (starts limit)
deed_of stop_tracing = changes stops
deed_of clear_traces = changes clears
deed_of reset_peak = changes resets
deed_of traced_memory = asks_traced
deed_of (mark domain number size) = marks (gets (of_mark domain number) size)
deed_of (unmark domain number) = marks (forgets (of_mark domain number))
deed_of (origin name) = asks_trace name
deed_of (snapshot name) = takes_snapshot name
deed_of (keep new old rules) = keeps_by new old rules
deed_of (stats name key cumulative most) = asks_snapshots (groups_of name key cumulative most)
deed_of (compare new old key cumulative most) = asks_snapshots (changes_between new old key cumulative most)
deed_of (dump name) = asks_snapshots (text_of name)
deed_of heap = asks_shape
deed_of (refuse side k) = lists_request side k
