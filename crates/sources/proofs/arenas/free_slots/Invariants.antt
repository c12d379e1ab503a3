use Rattle.std.proofs.Common.{◌≡◌, ℕ, length, []}
use Rattle.sources.specs.Kept.{slots_out}
use Rattle.sources.proofs.arenas.free_slots.Given as goal

abbrev pub invariant-loop-slot : goal.invariant-loop-slot
invariant-loop-slot l = (length l.slots.items ≡ l._slot) × ((b : ℕ) → slots_out b l.slots.items ≡ [])
