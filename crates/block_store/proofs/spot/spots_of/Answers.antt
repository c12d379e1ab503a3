use Rattle.std.proofs.Common.{◌∙◌, ap, List, [], ◌∷◌, ◌++◌, arith}
use Rattle.block_store.specs.Spots.{spots_from}
use Rattle.block_store.specs.declared.spot.Spot.{Spot}
use Rattle.block_store.proofs.SpotLemmas.{spots_take}
use Rattle.block_store.proofs.spot.spots_of.Goals as goal

pub loop-at-preserved : goal.loop-at-preserved
loop-at-preserved c =
    let slots = c.args.slots.now in
    let i = c.loop-at.at in
    c.in_ok-push_spot.ensures
    ∙ ap (λ (l : List Spot). l ++ spots_from i (c.index-slots-at.result ∷ [])) c.loop-at.invariant
    ∙ spots_take slots i c.index-slots-at.result (omega (arith, c.loop-at-test.true)) c.index-slots-at.is
