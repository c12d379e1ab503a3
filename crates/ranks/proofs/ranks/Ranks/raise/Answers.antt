use Rattle.std.proofs.Common.{◌≡◌, ◌≢◌, ◌+◌, ◌<◌, ◌≤◌, Some, None, get_or, set, refl, sym, subst, ap, ◌∙◌, arith}
use Rattle.links.specs.Nodes.{times}
use Rattle.links.proofs.CallerLemmas.{Contains-times}
use Rattle.ranks.specs.Ranks.{RanksView, IsRanked, either, kept_before, put_by, rank_in, without_node}
use Rattle.ranks.proofs.Moves.{left_has, left_out, moved_placed, moved_ranked, prev_in, some_last, stays_placed, stays_ranked}
use Rattle.ranks.proofs.ranks.Ranks.raise.Goals as goal

pub prev-before-requires : goal.prev-before-requires
prev-before-requires g c = Contains-times c.self.inside.chain.nodes c.self.inside.chain.nodes c.args.node refl (subst (λ (v : RanksView). 1 ≤ times c.args.node v.nodes) (sym c.self.view_is) c.requires.there)

pub with_rank-requires : goal.with_rank-requires
with_rank-requires g c x e = let h = c.self.invariant.below x (prev_in c.self.inside.chain.nodes c.args.node x c.prev-before.result (subst (λ (v : RanksView). 1 ≤ times c.args.node v.nodes) (sym c.self.view_is) c.requires.there) c.prev-before.ensures.prev e) in omega arith

pub invariant_of-self : goal.invariant_of-self
invariant_of-self g c =
    subst (λ rs. IsRanked c.self.inside.chain.nodes rs c.come.new.lasts.items c.self.inside.chain.room) (sym (c.set_rank.ensures ∙ ap (λ k. set c.self.inside.ranks.items c.args.node (k + 1)) c.rank_of-rank.ensures))
    (stays_ranked c.self.inside.chain.nodes c.self.inside.ranks.items c.self.inside.lasts.items c.self.inside.chain.room c.args.node c.self.invariant (subst (λ (v : RanksView). 1 ≤ times c.args.node v.nodes) (sym c.self.view_is) c.requires.there) (subst (λ (v : RanksView). rank_in v.ranks c.args.node < 64) (sym c.self.view_is) c.requires.few) c.last_of-found.result (c.last_of-found.ensures ∙ ap (λ k. get_or c.self.inside.lasts.items k None) c.rank_of-rank.ensures) (c.is_it.ensures.0 c.if-is_it.true)
    c.prev-before.result c.set_last.new.lasts.items c.come.new.lasts.items c.self.inside.chain.room c.prev-before.ensures.prev
    (c.set_last.ensures.items ∙ (λ i. set c.self.inside.lasts.items (c.rank_of-rank.ensures i) ((c.with_rank.ensures ∙ ap (λ k. kept_before (rank_in c.self.inside.ranks.items) k c.prev-before.result) c.rank_of-rank.ensures) i)))
    (c.come.ensures ∙ ap (λ k. set c.set_last.new.lasts.items (k + 1) (either (get_or c.set_last.new.lasts.items (k + 1) None) (Some c.args.node))) c.rank_of-rank.ensures) refl)

pub returns-then-is_it-clause-nodes : goal.returns-then-is_it-clause-nodes
returns-then-is_it-clause-nodes g c =
    subst (λ rs. c.self.inside.chain.nodes ≡ put_by (rank_in rs) c.args.node (without_node c.args.node c.self.inside.chain.nodes)) (sym (c.set_rank.ensures ∙ ap (λ k. set c.self.inside.ranks.items c.args.node (k + 1)) c.rank_of-rank.ensures))
    (stays_placed c.self.inside.chain.nodes c.self.inside.ranks.items c.self.inside.lasts.items c.self.inside.chain.room c.args.node c.self.invariant (subst (λ (v : RanksView). 1 ≤ times c.args.node v.nodes) (sym c.self.view_is) c.requires.there) (subst (λ (v : RanksView). rank_in v.ranks c.args.node < 64) (sym c.self.view_is) c.requires.few) c.last_of-found.result (c.last_of-found.ensures ∙ ap (λ k. get_or c.self.inside.lasts.items k None) c.rank_of-rank.ensures) (c.is_it.ensures.0 c.if-is_it.true))
    ∙ ap (λ (v : RanksView). put_by (rank_in c.set_rank.new.ranks.items) c.args.node (without_node c.args.node v.nodes)) c.self.view_is

pub remove-requires : goal.remove-requires
remove-requires g c = Contains-times c.self.inside.chain.nodes c.self.inside.chain.nodes c.args.node refl (subst (λ (v : RanksView). 1 ≤ times c.args.node v.nodes) (sym c.self.view_is) c.requires.there)

pub insert_after-requires-clause-at : goal.insert_after-requires-clause-at
insert_after-requires-clause-at g c =
    let other : c.in-Some.last ≢ c.args.node = λ e. let w = c.is_it.ensures.1 (c.in-Some.is ∙ ap Some e) in let f = c.if-is_it.false in absurd (cc) in
    left_has c.self.inside.chain.nodes c.self.inside.ranks.items c.self.inside.lasts.items c.self.inside.chain.room c.args.node c.self.invariant (subst (λ (v : RanksView). 1 ≤ times c.args.node v.nodes) (sym c.self.view_is) c.requires.there) (subst (λ (v : RanksView). rank_in v.ranks c.args.node < 64) (sym c.self.view_is) c.requires.few) c.in-Some.last (sym c.in-Some.is ∙ (c.last_of-found.ensures ∙ ap (λ k. get_or c.self.inside.lasts.items k None) c.rank_of-rank.ensures)) other c.remove.new.self.nodes c.remove.new.self.nodes c.remove.ensures.nodes

pub insert_after-requires-clause-out : goal.insert_after-requires-clause-out
insert_after-requires-clause-out g c =
    let other : c.in-Some.last ≢ c.args.node = λ e. let w = c.is_it.ensures.1 (c.in-Some.is ∙ ap Some e) in let f = c.if-is_it.false in absurd (cc) in
    left_out c.self.inside.chain.nodes c.self.inside.ranks.items c.self.inside.lasts.items c.self.inside.chain.room c.args.node c.self.invariant (subst (λ (v : RanksView). 1 ≤ times c.args.node v.nodes) (sym c.self.view_is) c.requires.there) (subst (λ (v : RanksView). rank_in v.ranks c.args.node < 64) (sym c.self.view_is) c.requires.few) c.in-Some.last (sym c.in-Some.is ∙ (c.last_of-found.ensures ∙ ap (λ k. get_or c.self.inside.lasts.items k None) c.rank_of-rank.ensures)) other c.remove.new.self.nodes c.remove.new.self.nodes c.remove.ensures.nodes

pub invariant_of-self-in-Some : goal.invariant_of-self-in-Some
invariant_of-self-in-Some g c =
    let other : c.in-Some.last ≢ c.args.node = λ e. let w = c.is_it.ensures.1 (c.in-Some.is ∙ ap Some e) in let f = c.if-is_it.false in absurd (cc) in
    subst (λ rs. IsRanked c.insert_after.new.self.nodes rs c.come-in-Some.new.lasts.items c.insert_after.new.self.room) (sym (c.set_rank-in-Some.ensures ∙ ap (λ k. set c.self.inside.ranks.items c.args.node (k + 1)) c.rank_of-rank.ensures))
    (moved_ranked c.self.inside.chain.nodes c.self.inside.ranks.items c.self.inside.lasts.items c.self.inside.chain.room c.args.node c.self.invariant (subst (λ (v : RanksView). 1 ≤ times c.args.node v.nodes) (sym c.self.view_is) c.requires.there) (subst (λ (v : RanksView). rank_in v.ranks c.args.node < 64) (sym c.self.view_is) c.requires.few) c.in-Some.last (sym c.in-Some.is ∙ (c.last_of-found.ensures ∙ ap (λ k. get_or c.self.inside.lasts.items k None) c.rank_of-rank.ensures)) other c.remove.new.self.nodes c.insert_after.new.self.nodes c.remove.ensures.nodes c.insert_after.ensures.nodes c.come-in-Some.new.lasts.items c.insert_after.new.self.room
    (c.come-in-Some.ensures ∙ ap (λ k. set c.self.inside.lasts.items (k + 1) (either (get_or c.self.inside.lasts.items (k + 1) None) (Some c.args.node))) c.rank_of-rank.ensures) (c.insert_after.ensures.room ∙ c.remove.ensures.room))

pub unreachable-requires : goal.unreachable-requires
unreachable-requires g c = some_last c.self.inside.chain.nodes c.self.inside.ranks.items c.self.inside.lasts.items c.self.inside.chain.room c.args.node c.self.invariant (subst (λ (v : RanksView). 1 ≤ times c.args.node v.nodes) (sym c.self.view_is) c.requires.there) (sym (c.last_of-found.ensures ∙ ap (λ k. get_or c.self.inside.lasts.items k None) c.rank_of-rank.ensures) ∙ c.in-None.is)

pub returns-clause-nodes : goal.returns-clause-nodes
returns-clause-nodes g c =
    let other : c.in-Some.last ≢ c.args.node = λ e. let w = c.is_it.ensures.1 (c.in-Some.is ∙ ap Some e) in let f = c.if-is_it.false in absurd (cc) in
    subst (λ rs. c.insert_after.new.self.nodes ≡ put_by (rank_in rs) c.args.node (without_node c.args.node c.self.inside.chain.nodes)) (sym (c.set_rank-in-Some.ensures ∙ ap (λ k. set c.self.inside.ranks.items c.args.node (k + 1)) c.rank_of-rank.ensures))
    (moved_placed c.self.inside.chain.nodes c.self.inside.ranks.items c.self.inside.lasts.items c.self.inside.chain.room c.args.node c.self.invariant (subst (λ (v : RanksView). 1 ≤ times c.args.node v.nodes) (sym c.self.view_is) c.requires.there) (subst (λ (v : RanksView). rank_in v.ranks c.args.node < 64) (sym c.self.view_is) c.requires.few) c.in-Some.last (sym c.in-Some.is ∙ (c.last_of-found.ensures ∙ ap (λ k. get_or c.self.inside.lasts.items k None) c.rank_of-rank.ensures)) other c.remove.new.self.nodes c.insert_after.new.self.nodes c.remove.ensures.nodes c.insert_after.ensures.nodes)
    ∙ ap (λ (v : RanksView). put_by (rank_in c.set_rank-in-Some.new.ranks.items) c.args.node (without_node c.args.node v.nodes)) c.self.view_is
