use Rattle.std.proofs.Common.{◌≡◌, subst}
use Rattle.block_store.specs.Store.{StoreView, counts_in}
use Rattle.block_store.proofs.CountLemmas.{counts_are}
use Rattle.block_store.proofs.store.Store.counts.Goals as goal

pub returns : goal.returns
returns c =
    let a = c.self.inside in
    subst (λ (s : StoreView). c.counts.result ≡ counts_in s) c.self.view_is (counts_are a.slots.items a.domains c.self.invariant c.counts.result c.counts.ensures)
