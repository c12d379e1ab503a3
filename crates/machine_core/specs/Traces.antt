-- What a machine holds by numbers while tracing, and what it stands for by names.
use Rattle.std.specs.Prelude.{◌≡◌, ◌<◌, ◌≤◌, true, List, length, Option, Some, is_some, IfSome}
use Rattle.std.specs.Option.{option_map}
use Rattle.mem_base.specs.Name.{Name}
use Rattle.mem_base.specs.declared.reply.Frame.{Frame}
use Rattle.tracing_model.specs.Traces.{Key, TraceOf, AreDistinct}
use Rattle.tracing_model.specs.Tracing.{Tracing, peak, traced_now}
use Rattle.event_model.specs.Tracing.{trace_in}
pub use Rattle.frame_stack.specs.Tracebacks.{KeepsNumbers, traceback_at}
pub use Rattle.trace_table.specs.Plain.{key_of, IsKnownKey, trace_of}
use Rattle.trace_table.specs.Traces.{Traces, trace_at, traced_bytes}
use Rattle.trace_table.specs.Tracing.{TracingView}
use Rattle.trace_table.specs.declared.key.TraceKey.{TraceKey}
use Rattle.trace_table.specs.declared.key.TraceOf.{TraceOf as Stored}

-- ---- keys and traces

-- the traceback of a trace has a number in the table
abbrev pub IsNumbered : List (List Frame) → Option Stored → Type 0
IsNumbered table of = IfSome of (λ t. t.trace.0 < length table)

-- the key and its name have the same trace or none
pub record KeyStands (texts : List Name) (table : List (List Frame)) (ts : Traces) (t : Option Tracing)
    (key : TraceKey) : Type 0 where
  pub named : trace_in t (key_of texts key) ≡ option_map (trace_of texts table) (trace_at ts key)
  pub numbered : IsNumbered table (trace_at ts key)

-- ---- all that is traced

-- what is traced by number stands for what is traced by name: the limit, the trace under each key, the sum of
-- all sizes and its peak
pub record TracesStand (texts : List Name) (table : List (List Frame)) (now : TracingView)
    (t : Option Tracing) : Type 0 where
  pub limit : now.limit ≡ option_map (λ x. x.limit) t
  pub each : (key : TraceKey) → IsKnownKey (length texts) key → KeyStands texts table now.traces t key
  -- no other key has a trace, by number or by name
  pub known : (key : TraceKey) → is_some (trace_at now.traces key) ≡ true → IsKnownKey (length texts) key
  pub named : (k : Key) (of : TraceOf) → trace_in t k ≡ Some of
      → (key : TraceKey) × IsKnownKey (length texts) key × (key_of texts key ≡ k)
  pub bytes : traced_bytes now.traces ≡ traced_now t
  pub most : now.peak ≡ peak t
  pub below : traced_now t ≤ peak t
  pub distinct : IfSome t (λ x. AreDistinct x.traces)
