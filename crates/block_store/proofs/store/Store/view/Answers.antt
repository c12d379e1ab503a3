use Rattle.std.proofs.Common.{◌≡◌, ◌∙◌, subst}
use Rattle.std.specs.Prelude.{IfOk}
use Rattle.std.proofs.lemmas.Result.{IfOk-weaker}
use Rattle.mem_base.specs.declared.reply.View.{View}
use Rattle.domain_api.specs.Domains.{view_of_both}
use Rattle.block_store.specs.Store.{StoreView, shape_in, view_of}
use Rattle.block_store.proofs.CountLemmas.{shape_is}
use Rattle.block_store.proofs.store.Store.view.Goals as goal

pub returns : goal.returns
returns c =
    let a = c.self.inside in
    subst (λ (s : StoreView). IfOk c.view.result (λ view. view ≡ shape_in s)) c.self.view_is
    (IfOk-weaker c.view.result (λ (view : View). view ≡ view_of_both a.domains) (λ (view : View). view ≡ shape_in (view_of a.slots.items a.domains))
    (λ view is. is ∙ shape_is a.slots.items a.domains c.self.invariant) c.view.ensures)
