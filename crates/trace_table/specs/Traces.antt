-- Traces by their keys, what is under a key, and the bytes of all.
use Rattle.std.specs.Prelude.{◌≡◌, ℕ, ◌+◌, ◌-◌, ◌^◌, ◌≤◌, Bool, false, List, All, Option, Some, None, sum_by}
use Rattle.std.specs.Map.{lookup, values_of}
use Rattle.trace_table.specs.declared.key.TraceKey.{TraceKey}
use Rattle.trace_table.specs.declared.key.TraceOf.{TraceOf}
use Rattle.trace_table.specs.contracts.key.TraceKeyPartialEq.TheImpl as keys

-- the traces by their keys, in some order
abbrev pub Traces : Type 0
Traces = List (TraceKey × TraceOf)

-- whether the keys are the same
abbrev pub same_key : TraceKey → TraceKey → Bool
same_key = (keys.ghosts).eq

-- the trace under a key
abbrev pub trace_at : Traces → TraceKey → Option TraceOf
trace_at ts key = lookup (same_key key) ts

-- the bytes of a trace, or none
abbrev pub size_in : Option TraceOf → ℕ
size_in None = 0
size_in (Some t) = t.size

-- the bytes of all traces
abbrev pub traced_bytes : Traces → ℕ
traced_bytes ts = sum_by (λ t. t.size) (values_of ts)

-- each size fits 64 bits
abbrev pub AreSmall : Traces → Type 0
AreSmall ts = All (λ t. t.size ≤ 2 ^ 64 - 1) (values_of ts)

-- a key comes to have this trace or none, each other key keeps its own, and the bytes of all change by what the
-- key had and has
pub record Changes (key : TraceKey) (of : Option TraceOf) (old new : Traces) : Type 0 where
  pub its : trace_at new key ≡ of
  pub others : (k : TraceKey) → same_key key k ≡ false → trace_at new k ≡ trace_at old k
  pub bytes : traced_bytes new + size_in (trace_at old key) ≡ traced_bytes old + size_in of
