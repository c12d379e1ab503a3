use Rattle.std.proofs.Common.{◌≤◌, refl, sym, subst}
use Rattle.links.specs.Nodes.{times}
use Rattle.links.proofs.CallerLemmas.{Contains-times}
use Rattle.ranks.specs.Ranks.{RanksView}
use Rattle.ranks.proofs.ranks.Ranks.next.Goals as goal

pub next-requires : goal.next-requires
next-requires g c = Contains-times c.self.inside.chain.nodes c.self.inside.chain.nodes c.args.node refl (subst (λ (v : RanksView). 1 ≤ times c.args.node v.nodes) (sym c.self.view_is) c.requires.there)
