use Rattle.std.proofs.Common.{◌≡◌, ◌<◌, ◌≤◌, ℕ, length, refl, sym, subst}
use Rattle.links.specs.Nodes.{times}
use Rattle.links.proofs.CallerLemmas.{not_Contains-times}
use Rattle.ranks.specs.Ranks.{RanksView, rank_in, IsRanked}
use Rattle.ranks.proofs.Moves.{pushed}
use Rattle.ranks.proofs.ranks.Ranks.push_front.Goals as goal

pub push_front-requires-clause-out : goal.push_front-requires-clause-out
push_front-requires-clause-out g c = not_Contains-times c.self.inside.chain.nodes c.self.inside.chain.nodes c.args.node refl (subst (λ (v : RanksView). times c.args.node v.nodes ≡ 0) (sym c.self.view_is) c.requires.out)

pub invariant_of-self : goal.invariant_of-self
invariant_of-self g c =
    subst (λ rs. IsRanked c.push_front.new.self.nodes rs c.come.new.lasts.items c.push_front.new.self.room) (sym c.set_rank.ensures)
    (pushed c.self.inside.chain.nodes c.self.inside.ranks.items c.self.inside.lasts.items c.self.inside.chain.room c.args.node c.args.rank c.self.invariant
    (subst (λ (v : RanksView). c.args.node < length v.ranks) (sym c.self.view_is) c.requires.below) (subst (λ (v : RanksView). times c.args.node v.nodes ≡ 0) (sym c.self.view_is) c.requires.out) c.requires.rank.0 c.requires.rank.1
    (subst (λ (v : RanksView). (x : ℕ) → 1 ≤ times x v.nodes → c.args.rank ≤ rank_in v.ranks x) (sym c.self.view_is) c.requires.least)
    c.push_front.new.self.nodes c.come.new.lasts.items c.push_front.new.self.room c.push_front.ensures.nodes c.come.ensures c.push_front.ensures.room)
