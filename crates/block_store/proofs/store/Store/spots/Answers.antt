use Rattle.std.proofs.Common.{◌<◌, ◌^◌, ◌∙◌, length, ap, subst, arith}
use Rattle.std.specs.Prelude.{IfOk}
use Rattle.std.proofs.lemmas.Result.{IfOk-weaker}
use Rattle.block_store.specs.Spots.{AreSpots, living, spots_from}
use Rattle.block_store.specs.Store.{StoreView}
use Rattle.block_store.proofs.SpotLemmas.{blocks_length, spots_are}
use Rattle.block_store.proofs.store.Store.spots.Goals as goal

pub spots_of-requires : goal.spots_of-requires
spots_of-requires c =
    let a = c.self.inside in
    let few : length c.args.self.now.blocks < 2 ^ 32 = c.requires in
    omega (arith, few, ap (λ (s : StoreView). length s.blocks) c.self.view_is, blocks_length a.domains.heap.places a.slots.items, ap length c.as_slice.ensures.value)

pub returns : goal.returns
returns c =
    let a = c.self.inside in
    subst (λ (s : StoreView). IfOk c.spots_of.result (AreSpots (living s))) c.self.view_is
    (IfOk-weaker c.spots_of.result _ _ (λ spots is. spots_are a.slots.items a.domains c.self.invariant spots (is ∙ ap (spots_from 0) c.as_slice.ensures.value)) c.spots_of.ensures)
