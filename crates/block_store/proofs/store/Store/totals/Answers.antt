use Rattle.std.proofs.Common.{◌≡◌, ◌∙◌, List, Option, ap, subst}
use Rattle.std.specs.Prelude.{sum_by}
use Rattle.debug_guard.specs.Guard.{Guard}
use Rattle.block_store.specs.Slots.{blocks_in, data_in}
use Rattle.block_store.specs.Store.{StoreView, live_in, size_in}
use Rattle.block_store.proofs.CountLemmas.{live_is, size_is}
use Rattle.block_store.proofs.store.Store.totals.Goals as goal

pub returns-clause-blocks : goal.returns-clause-blocks
returns-clause-blocks c =
    let a = c.self.inside in
    subst (λ (s : StoreView). c.totals_of.result.blocks ≡ sum_by live_in s.blocks) c.self.view_is
    (c.totals_of.ensures.blocks ∙ ap (λ (l : List (Option Guard)). sum_by blocks_in l) c.as_slice.ensures.value ∙ live_is a.domains.heap.places a.slots.items)

pub returns-clause-bytes : goal.returns-clause-bytes
returns-clause-bytes c =
    let a = c.self.inside in
    subst (λ (s : StoreView). c.totals_of.result.bytes ≡ sum_by size_in s.blocks) c.self.view_is
    (c.totals_of.ensures.bytes ∙ ap (λ (l : List (Option Guard)). sum_by data_in l) c.as_slice.ensures.value ∙ size_is a.domains.heap.places a.slots.items)
