use Rattle.std.proofs.Common.{◌≡◌, ◌*◌, ◌^◌, ◌≤◌, take}
use Rattle.std.specs.Prelude.{sum_by}
use Rattle.block_store.specs.Slots.{blocks_in, data_in}
use Rattle.block_store.proofs.store.totals_of.Given as goal

-- the sums over the slots so far
abbrev pub invariant-loop-slot : goal.invariant-loop-slot
invariant-loop-slot l = record {
  blocks : l.totals.blocks ≡ sum_by blocks_in (take l.slot-index l.slots);
  bytes : l.totals.bytes ≡ sum_by data_in (take l.slot-index l.slots);
  few : l.totals.blocks ≤ l.slot-index;
  room : l.totals.bytes ≤ l.slot-index * 2 ^ 63;
}
