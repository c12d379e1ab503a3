use Rattle.std.proofs.Common.{◌≡◌, take}
use Rattle.block_store.specs.Spots.{spots_from}
use Rattle.block_store.proofs.spot.spots_of.Given as goal

-- the spots of the slots so far
abbrev pub invariant-loop-at : goal.invariant-loop-at
invariant-loop-at l = l.spots ≡ spots_from 0 (take l.at l.slots)
