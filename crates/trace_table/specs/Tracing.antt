-- What contracts see of a table of traces.
use Rattle.std.specs.Prelude.{◌≡◌, ◌≤◌, ◌<◌, ◌-◌, ◌^◌, ℕ, min, max, [], length, Option, None, IfNone}
use Rattle.trace_table.specs.declared.key.TraceKey.{TraceKey}
use Rattle.trace_table.specs.declared.key.TraceOf.{TraceOf}
use Rattle.trace_table.specs.Traces.{Traces, AreSmall, Changes, trace_at, traced_bytes}

-- how many frames a trace keeps, or that nothing is traced; the traces by their keys; the peak; and for how many
-- more traces there is room
pub record TracingView : Type 0 where
  pub limit : Option ℕ
  pub traces : Traces
  pub peak : ℕ
  pub spare : ℕ

-- for how many more traces there are both memory and numbers: there are fewer than 2^32 traces
abbrev pub room : (memory count : ℕ) → ℕ
room memory count = min memory (2 ^ 32 - 1 - count)

-- nothing is traced
pub record IsIdle (t : TracingView) : Type 0 where
  pub limit : t.limit ≡ None
  pub traces : t.traces ≡ []
  pub peak : t.peak ≡ 0

-- each key has the trace that it had, and all else is as it was but the memory
pub record HoldsTheSame (old new : TracingView) : Type 0 where
  pub limit : new.limit ≡ old.limit
  pub each : (key : TraceKey) → trace_at new.traces key ≡ trace_at old.traces key
  pub bytes : traced_bytes new.traces ≡ traced_bytes old.traces
  pub peak : new.peak ≡ old.peak

-- one key changes, and the peak is the greater of what it was and what is traced then
pub record ChangesOne (key : TraceKey) (of : Option TraceOf) (old new : TracingView) : Type 0 where
  pub limit : new.limit ≡ old.limit
  pub changes : Changes key of old.traces new.traces
  pub peak : new.peak ≡ max old.peak (traced_bytes new.traces)

-- the sum is that of all sizes, the peak is not below it, the traces are few enough to be numbered, and while
-- nothing is traced there is nothing
pub record IsSummed (limit : Option ℕ) (ts : Traces) (bytes peak : ℕ) : Type 0 where
  pub sum : bytes ≡ traced_bytes ts
  pub below : bytes ≤ peak
  pub small : AreSmall ts
  pub few : length ts < 2 ^ 32
  pub idle : IfNone limit ((ts ≡ []) × (peak ≡ 0))
