use Rattle.std.proofs.Common.{◌≡◌, ◌+◌, ◌==◌, ◌||◌, subst, ap, ◌∙◌}
use Rattle.sources.specs.Memory.{RequestsView, is_listed}
use Rattle.sources.proofs.Plans.{listed_more}
use Rattle.sources.proofs.requests.Requests.list.Goals as goal

pub returns-clause-listed : goal.returns-clause-listed
returns-clause-listed c k =
    let keys = c.insert.new.self.keys in
    let told = ap (λ l. is_listed l k) c.in_ok-insert.ensures.keys ∙ listed_more c.self.inside.plan.keys (c.self.inside.asked + c.args.k) k in
    subst (λ (v : RequestsView). is_listed keys k ≡ ((v.asked + c.args.k == k) || is_listed v.plan k)) c.self.view_is told
