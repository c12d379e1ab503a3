-- The bytes of all traces, and what one key's change makes of them.
use Rattle.std.proofs.Common.{◌≡◌, ℕ, ◌-◌, ◌^◌, ◌<◌, ◌≤◌, [], ◌∷◌, IfNone, Option, Some, None, refl, sym, subst, arith}
use Rattle.std.proofs.Common.{option_map, length}
use Rattle.std.specs.HashMap.{HashMap, PutsEntry}
use Rattle.std.specs.Map.{remove_entry, values_of}
use Rattle.std.specs.List.Sorted.{IsPermutation}
use Rattle.std.specs.Option.{unwrap_or}
use Rattle.std.proofs.lemmas.List.Elements.{All-cons}
use Rattle.std.proofs.lemmas.List.Sums.{sum_by-le}
use Rattle.std.proofs.lemmas.Map.Entries.{length-values_of, sum_by-remove_entry}
use Rattle.std.proofs.lemmas.Map.Views.{All-map-IsPermutation, All-values-set_value, All-map-remove_entry}
use Rattle.trace_table.specs.declared.key.TraceKey.{TraceKey}
use Rattle.trace_table.specs.declared.key.TraceOf.{TraceOf}
use Rattle.trace_table.specs.Traces.{Traces, AreSmall, same_key, size_in, trace_at, traced_bytes}

pub size_is : (o : Option TraceOf) → unwrap_or (option_map (λ t. t.size) o) 0 ≡ size_in o
size_is None = refl
size_is (Some t) = refl

-- a key's bytes are among all
pub size_within : (ts : Traces) (key : TraceKey) → size_in (trace_at ts key) ≤ traced_bytes ts
size_within ts key = omega (arith, sum_by-remove_entry (λ t. t.size) (same_key key) ts, size_is (trace_at ts key))

-- the bytes of all traces fit 128 bits
pub bytes_fit : (ts : Traces) → AreSmall ts → length ts < 2 ^ 63 → traced_bytes ts < 2 ^ 127
bytes_fit ts small few = omega (arith, few, sum_by-le (λ t. t.size) (2 ^ 64 - 1) (values_of ts) small, length-values_of ts)

pub small_put : {S : Type 0} (m n : HashMap TraceKey TraceOf S) (key : TraceKey) (of : TraceOf) (old : Option TraceOf)
    → PutsEntry same_key m n key of old → of.size ≤ 2 ^ 64 - 1
    → AreSmall m.entries → AreSmall n.entries
small_put m n key of None puts fits small =
    All-map-IsPermutation (λ e. e.1) (λ t. t.size ≤ 2 ^ 64 - 1) ((key, of) ∷ m.entries) n.entries puts
    (All-cons (λ t. t.size ≤ 2 ^ 64 - 1) of (values_of m.entries) fits small)
small_put m n key of (Some t) puts fits small =
    subst AreSmall (sym puts) (All-values-set_value (same_key key) (λ t. t.size ≤ 2 ^ 64 - 1) m.entries of small fits)

pub small_gone : (ts rest : Traces) (key : TraceKey) → IsPermutation (remove_entry (same_key key) ts) rest → AreSmall ts
    → AreSmall rest
small_gone ts rest key same small =
    All-map-IsPermutation (λ e. e.1) (λ t. t.size ≤ 2 ^ 64 - 1) (remove_entry (same_key key) ts) rest same
    (All-map-remove_entry (same_key key) (λ e. e.1) (λ t. t.size ≤ 2 ^ 64 - 1) ts small)

pub small_moved : (ts moved : Traces) → IsPermutation ts moved → AreSmall ts → AreSmall moved
small_moved ts moved same small = All-map-IsPermutation (λ e. e.1) (λ t. t.size ≤ 2 ^ 64 - 1) ts moved same small

pub no_traces : (ts : Traces) → length ts ≡ 0 → ts ≡ []
no_traces [] none = refl
no_traces (e ∷ ts) none = absurd (omega (arith, none))

pub still_idle : {A B : Type 0} (limit : Option ℕ) → (A → B) → IfNone limit A → IfNone limit B
still_idle None f h = f h
still_idle (Some n) f h = tt
