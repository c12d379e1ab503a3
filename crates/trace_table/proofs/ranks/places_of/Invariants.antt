use Rattle.std.proofs.Common.{◌≡◌, ℕ, ◌<◌, length, get_or}
use Rattle.trace_table.proofs.ranks.places_of.Given as goal

abbrev pub invariant-loop-place : goal.invariant-loop-place
invariant-loop-place l = record {
  size : length l.places.items ≡ length l.order;
  each : (k : ℕ) → k < l.place → get_or l.places.items (get_or l.order k 0) 0 ≡ k;
}
