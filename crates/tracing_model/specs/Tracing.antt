-- What is held while tracing, and what an event leaves of it: tracemalloc's start, stop, clear_traces and reset_peak, and the
-- traces that calls of the allocator add and take away.
use Rattle.std.specs.Prelude.{ℕ, max, List, [], ◌∷◌, ◌++◌, Option, Some, None}
use Rattle.frame_model.specs.Frames.{PlainFrame, recent, total}
use Rattle.tracing_model.specs.Traces.{Key, TraceOf, Traces, traced_bytes, traces_with, traces_without}

-- How many frames a trace keeps, the traces, and the bytes that were traced after each event since tracing began, or since the traces
-- were cleared or the peak was reset, that event included. While nothing is traced there is none of this.
pub record Tracing : Type 0 where
  pub limit : ℕ
  pub traces : Traces
  pub sums : List ℕ

-- the greatest of some numbers, or 0
abbrev pub greatest : List ℕ → ℕ
greatest [] = 0
greatest (n ∷ ns) = max n (greatest ns)

-- the bytes that are traced, and the most that were
abbrev pub traced_now : Option Tracing → ℕ
traced_now None = 0
traced_now (Some t) = traced_bytes t.traces

abbrev pub peak : Option Tracing → ℕ
peak None = 0
peak (Some t) = greatest t.sums

-- ---- what an event does to it

-- what an event means for tracing: a key gets a size or loses its trace, tracing starts or stops, the traces are cleared, the
-- peak is reset, or nothing
pub data Change : Type 0 where
  gets : Key → (size : ℕ) → Change
  forgets : Key → Change
  starts : (limit : ℕ) → Change
  stops : Change
  clears : Change
  resets : Change
  keeps : Change

-- the trace of so many bytes by a track with these frames
abbrev pub trace_of : PlainFrame → ℕ → List PlainFrame → ℕ → TraceOf
trace_of unknown limit frames size = record { size = size; frames = recent unknown limit frames; total = total frames }

-- one more event
abbrev pub more_sums : Tracing → Traces → Tracing
more_sums t ts = record t { traces = ts; sums = t.sums ++ traced_bytes ts ∷ [] }

-- sums that begin again
abbrev pub new_sums : Tracing → Traces → Tracing
new_sums t ts = record t { traces = ts; sums = traced_bytes ts ∷ [] }

-- what an event of a track with these frames leaves
abbrev pub after : PlainFrame → List PlainFrame → Change → Option Tracing → Option Tracing
after unknown frames (gets key size) None = None
after unknown frames (gets key size) (Some t) =
    Some (more_sums t (traces_with t.traces key (trace_of unknown t.limit frames size)))
after unknown frames (forgets key) None = None
after unknown frames (forgets key) (Some t) = Some (more_sums t (traces_without t.traces key))
after unknown frames (starts limit) None = Some (record { limit = limit; traces = []; sums = 0 ∷ [] })
after unknown frames (starts limit) (Some t) = Some (more_sums t t.traces)
after unknown frames stops state = None
after unknown frames clears None = None
after unknown frames clears (Some t) = Some (new_sums t [])
after unknown frames resets None = None
after unknown frames resets (Some t) = Some (new_sums t t.traces)
after unknown frames keeps None = None
after unknown frames keeps (Some t) = Some (more_sums t t.traces)
