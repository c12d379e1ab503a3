use Rattle.std.proofs.Common.{◌≤◌, None, get_or, set, refl, sym, subst, ap, ◌∙◌, arith}
use Rattle.links.specs.Nodes.{times}
use Rattle.links.proofs.CallerLemmas.{Contains-times}
use Rattle.ranks.specs.Ranks.{RanksView, kept_before, rank_in, without_node}
use Rattle.ranks.proofs.Moves.{left_last, left_other, left_without, prev_in}
use Rattle.ranks.proofs.ranks.Ranks.remove.Goals as goal

pub prev-before-requires : goal.prev-before-requires
prev-before-requires g c = Contains-times c.self.inside.chain.nodes c.self.inside.chain.nodes c.args.node refl (subst (λ (v : RanksView). 1 ≤ times c.args.node v.nodes) (sym c.self.view_is) c.requires.there)

pub with_rank-requires : goal.with_rank-requires
with_rank-requires g c x e = let h = c.self.invariant.below x (prev_in c.self.inside.chain.nodes c.args.node x c.prev-before.result (subst (λ (v : RanksView). 1 ≤ times c.args.node v.nodes) (sym c.self.view_is) c.requires.there) c.prev-before.ensures.prev e) in omega arith

pub remove-requires : goal.remove-requires
remove-requires g c = Contains-times c.self.inside.chain.nodes c.self.inside.chain.nodes c.args.node refl (subst (λ (v : RanksView). 1 ≤ times c.args.node v.nodes) (sym c.self.view_is) c.requires.there)

pub remove-requires-2 : goal.remove-requires-2
remove-requires-2 g c = Contains-times c.self.inside.chain.nodes c.self.inside.chain.nodes c.args.node refl (subst (λ (v : RanksView). 1 ≤ times c.args.node v.nodes) (sym c.self.view_is) c.requires.there)

pub invariant_of-self : goal.invariant_of-self
invariant_of-self g c =
    left_last c.self.inside.chain.nodes c.self.inside.ranks.items c.self.inside.lasts.items c.self.inside.chain.room c.args.node c.self.invariant (subst (λ (v : RanksView). 1 ≤ times c.args.node v.nodes) (sym c.self.view_is) c.requires.there) c.last_of.result c.prev-before.result c.remove.new.self.nodes c.set_last.new.lasts.items c.remove.new.self.room (c.last_of.ensures ∙ ap (λ k. get_or c.self.inside.lasts.items k None) c.rank_of-rank.ensures) (c.is_it.ensures.0 c.if-is_it.true) c.prev-before.ensures.prev
    (c.set_last.ensures.items ∙ (λ i. set c.self.inside.lasts.items (c.rank_of-rank.ensures i) ((c.with_rank.ensures ∙ ap (λ k. kept_before (rank_in c.self.inside.ranks.items) k c.prev-before.result) c.rank_of-rank.ensures) i)))
    c.remove.ensures.nodes c.remove.ensures.room

pub returns-then-is_it-clause-nodes : goal.returns-then-is_it-clause-nodes
returns-then-is_it-clause-nodes g c = left_without c.self.inside.chain.nodes c.self.inside.ranks.items c.self.inside.lasts.items c.self.inside.chain.room c.args.node c.self.invariant (subst (λ (v : RanksView). 1 ≤ times c.args.node v.nodes) (sym c.self.view_is) c.requires.there) c.remove.new.self.nodes c.remove.ensures.nodes ∙ ap (λ (v : RanksView). without_node c.args.node v.nodes) c.self.view_is

pub invariant_of-self-2 : goal.invariant_of-self-2
invariant_of-self-2 g c =
    left_other c.self.inside.chain.nodes c.self.inside.ranks.items c.self.inside.lasts.items c.self.inside.chain.room c.args.node c.self.invariant (subst (λ (v : RanksView). 1 ≤ times c.args.node v.nodes) (sym c.self.view_is) c.requires.there) c.remove-2.new.self.nodes c.remove-2.new.self.room (λ e. let w = c.is_it.ensures.1 ((c.last_of.ensures ∙ ap (λ k. get_or c.self.inside.lasts.items k None) c.rank_of-rank.ensures) ∙ e) in let f = c.if-is_it.false in absurd (cc)) c.remove-2.ensures.nodes c.remove-2.ensures.room

pub returns-clause-nodes : goal.returns-clause-nodes
returns-clause-nodes g c = left_without c.self.inside.chain.nodes c.self.inside.ranks.items c.self.inside.lasts.items c.self.inside.chain.room c.args.node c.self.invariant (subst (λ (v : RanksView). 1 ≤ times c.args.node v.nodes) (sym c.self.view_is) c.requires.there) c.remove-2.new.self.nodes c.remove-2.ensures.nodes ∙ ap (λ (v : RanksView). without_node c.args.node v.nodes) c.self.view_is
