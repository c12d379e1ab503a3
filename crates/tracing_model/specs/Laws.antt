-- Laws over traces and the peak.
use Rattle.std.specs.Prelude.{◌≡◌, ◌≢◌, ℕ, ◌+◌, max, Bool, true, false, List, Some, None}
use Rattle.frame_model.specs.Frames.{PlainFrame}
use Rattle.tracing_model.specs.Traces.{Key, TraceOf, Traces, AreDistinct, size_in, trace_at, traced_bytes, traces_with, traces_without}
use Rattle.tracing_model.specs.Tracing.{Tracing, Change, gets, forgets, starts, stops, clears, resets, keeps, after, peak, traced_now}

-- a key has the trace that it got, or none once it is forgotten; each other key has what it had
abbrev pub KeysHoldTheirs : Type 0
KeysHoldTheirs = (ts : Traces) (key other : Key) (t : TraceOf)
    → (trace_at (traces_with ts key t) key ≡ Some t) × (trace_at (traces_without ts key) key ≡ None)
    × (other ≢ key → trace_at (traces_with ts key t) other ≡ trace_at ts other)
    × (other ≢ key → trace_at (traces_without ts key) other ≡ trace_at ts other)

-- no key comes to have two traces
abbrev pub StayDistinct : Type 0
StayDistinct = (ts : Traces) (key : Key) (t : TraceOf) → AreDistinct ts
    → AreDistinct (traces_with ts key t) × AreDistinct (traces_without ts key)

-- a sum changes by what the key had and has
abbrev pub SumsChangeByOne : Type 0
SumsChangeByOne = (ts : Traces) (key : Key) (t : TraceOf) → AreDistinct ts
    → (traced_bytes (traces_without ts key) + size_in (trace_at ts key) ≡ traced_bytes ts)
    × (traced_bytes (traces_with ts key t) + size_in (trace_at ts key) ≡ traced_bytes ts + t.size)

-- the event takes the sums further
abbrev pub goes_on : Change → Bool
goes_on (gets key size) = true
goes_on (forgets key) = true
goes_on (starts limit) = true
goes_on stops = false
goes_on clears = false
goes_on resets = false
goes_on keeps = true

-- after an event that takes the sums further, the peak is the greater of what it was and what is traced now
abbrev pub PeakRises : Type 0
PeakRises = (unknown : PlainFrame) (frames : List PlainFrame) (change : Change) (t : Tracing) → goes_on change ≡ true
    → peak (after unknown frames change (Some t)) ≡ max (peak (Some t)) (traced_now (after unknown frames change (Some t)))

-- after a start that begins tracing, a clear and a reset the peak is what is traced now
abbrev pub PeakBegins : Type 0
PeakBegins = (unknown : PlainFrame) (frames : List PlainFrame) (limit : ℕ) (t : Tracing)
    → (peak (after unknown frames (starts limit) None) ≡ traced_now (after unknown frames (starts limit) None))
    × (peak (after unknown frames clears (Some t)) ≡ traced_now (after unknown frames clears (Some t)))
    × (peak (after unknown frames resets (Some t)) ≡ traced_now (after unknown frames resets (Some t)))

-- while nothing is traced, only a start changes that, and both numbers are 0
abbrev pub OnlyStartsBegin : Type 0
OnlyStartsBegin = (unknown : PlainFrame) (frames : List PlainFrame) (change : Change)
    → ((limit : ℕ) → change ≢ starts limit) → after unknown frames change None ≡ None
