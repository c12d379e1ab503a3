use Rattle.std.proofs.Common.{◌≡◌, subst}
use Rattle.mem_base.specs.declared.reply.View.{View}
use Rattle.domain_api.specs.Domains.{view_of_both}
use Rattle.domain_api.specs.Held.{DomainsView}
use Rattle.domain_api.proofs.domains.Domains.view.Goals as goal

pub returns : goal.returns
returns c =
    let told : View = record c.in_ok-view.view { raws = c.live.result } in
    subst (λ (d : DomainsView). told ≡ view_of_both d) c.self.view_is (λ i. record (c.in_ok-view.ensures i) { raws = c.live.ensures i })
