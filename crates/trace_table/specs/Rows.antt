-- The rows of traces, ordered by the ranks of names.
use Rattle.std.specs.Prelude.{ℕ, List, map, slice_index}
use Rattle.std.specs.List.{IsDistinct}
use Rattle.std.specs.List.Sorted.{IsPermutation, IsSorted}
use Rattle.std.specs.Map.{keys_of}
use Rattle.std.specs.Ordering.{nat_cmp, ordering_then}
use Rattle.std.specs.declared.cmp.Ordering.{Ordering}
use Rattle.std.specs.declared.cmp.Ordering.TheVariants.{Less, Greater}
use Rattle.trace_table.specs.Plain.{row_of}
use Rattle.trace_table.specs.Traces.{Traces, same_key}
use Rattle.trace_table.specs.declared.key.TraceKey.{TraceKey}
use Rattle.trace_table.specs.declared.key.TraceKey.TheVariants as keys
use Rattle.trace_table.specs.declared.snapshot.Row.{Row}

-- blocks by the ranks of their names and before marked numbers, these by their domains and then by number
abbrev pub ranked_cmp : List ℕ → TraceKey → TraceKey → Ordering
ranked_cmp ranks (keys.Block a) (keys.Block b) = nat_cmp (slice_index ranks a.0) (slice_index ranks b.0)
ranked_cmp ranks (keys.Block a) (keys.Number e n) = Less
ranked_cmp ranks (keys.Number d m) (keys.Block b) = Greater
ranked_cmp ranks (keys.Number d m) (keys.Number e n) = ordering_then (nat_cmp d e) (nat_cmp m n)

-- no key has two traces, and the rows are those of the traces, in the order of their keys
pub record AreAllRows (ranks : List ℕ) (ts : Traces) (rows : List Row) : Type 0 where
  pub once : IsDistinct same_key (keys_of ts)
  pub same : IsPermutation (map (λ e. row_of e.0 e.1) ts) rows
  pub sorted : IsSorted (λ (a : Row) (b : Row). ranked_cmp ranks a.key b.key) rows
