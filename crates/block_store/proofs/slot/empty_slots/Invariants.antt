use Rattle.std.proofs.Common.{◌≡◌, ◌≤◌, replicate, None}
use Rattle.std.specs.Prelude.{vec_len, vec_capacity}
use Rattle.block_store.proofs.slot.empty_slots.Given as goal

abbrev pub invariant-loop : goal.invariant-loop
invariant-loop l = record {
  empty : l.slots.items ≡ replicate l.counter None;
  long : vec_len l.slots ≡ l.counter;
  room : l.count ≤ vec_capacity l.slots;
}
