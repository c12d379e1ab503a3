use Rattle.std.proofs.Common.{◌≡◌, ◌-◌, ◌≤◌, [], ◌∷◌, Some, None, get_or, set, refl, sym, subst, ap, ◌∙◌, inl, inr, arith}
use Rattle.std.proofs.lemmas.Bool.Decides.{eqb_tells}
use Rattle.links.specs.Nodes.{first_of, times, IsRemoved}
use Rattle.ranks.specs.Ranks.{RanksView, IsRanked, after_lower, either, gone_from, rank_in}
use Rattle.ranks.proofs.Moves.{first_split, first_times, front_falls, lowest_goes, rank_some}
use Rattle.ranks.proofs.ranks.Ranks.lower_front.Goals as goal

pub invariant_of-self : goal.invariant_of-self
invariant_of-self g c =
    let split = first_split c.self.inside.chain.nodes c.args.node (subst (λ (v : RanksView). Some c.args.node ≡ first_of v.nodes) (sym c.self.view_is) c.requires.front) in
    (lowest_goes split.0 c.self.inside.ranks.items c.self.inside.lasts.items c.self.inside.chain.room c.args.node (subst (λ xs. IsRanked xs c.self.inside.ranks.items c.self.inside.lasts.items c.self.inside.chain.room) split.1 c.self.invariant)
    c.go.new.lasts.items (c.go.ensures ∙ ap (λ k. set c.self.inside.lasts.items k (gone_from (get_or c.self.inside.lasts.items k None) c.args.node)) c.rank_of-rank.ensures)
    c.remove.new.self.nodes c.remove.new.self.room (subst (λ xs. IsRemoved c.args.node xs c.remove.new.self.nodes) split.1 c.remove.ensures.nodes) c.remove.ensures.room).1

pub returns-then-rank-eq1-clause-nodes : goal.returns-then-rank-eq1-clause-nodes
returns-then-rank-eq1-clause-nodes g c =
    let split = first_split c.self.inside.chain.nodes c.args.node (subst (λ (v : RanksView). Some c.args.node ≡ first_of v.nodes) (sym c.self.view_is) c.requires.front) in
    let one : rank_in c.self.inside.ranks.items c.args.node ≡ 1 = sym c.rank_of-rank.ensures ∙ c.if-rank-eq1.true in
    let goes : after_lower (rank_in c.self.inside.ranks.items) (c.args.node ∷ split.0) ≡ split.0 = elim (eqb_tells (rank_in c.self.inside.ranks.items c.args.node) 1) [ inl w ↦ rw w.0 refl | inr w ↦ absurd (w.1 one) ] in
    c.remove.ensures.nodes [] split.0 split.1 ∙ (sym goes ∙ (ap (after_lower (rank_in c.self.inside.ranks.items)) (sym split.1) ∙ ap (λ (v : RanksView). after_lower (rank_in v.ranks) v.nodes) c.self.view_is))

pub invariant_of-self-2 : goal.invariant_of-self-2
invariant_of-self-2 g c =
    let split = first_split c.self.inside.chain.nodes c.args.node (subst (λ (v : RanksView). Some c.args.node ≡ first_of v.nodes) (sym c.self.view_is) c.requires.front) in
    let other = c.if-rank-eq1.false in
    let some = rank_some c.self.inside.chain.nodes c.self.inside.ranks.items c.self.inside.lasts.items c.self.inside.chain.room c.args.node c.self.invariant (subst (λ xs. 1 ≤ times c.args.node xs) (sym split.1) (first_times c.args.node split.0)) in
    let two : 2 ≤ rank_in c.self.inside.ranks.items c.args.node = omega (arith, c.rank_of-rank.ensures) in
    let low = c.set_rank.ensures ∙ ap (λ k. set c.self.inside.ranks.items c.args.node (k - 1)) c.rank_of-rank.ensures in
    subst (λ xs. IsRanked xs c.set_rank.new.ranks.items c.come.new.lasts.items c.self.inside.chain.room) (sym split.1) (subst (λ rs. IsRanked (c.args.node ∷ split.0) rs c.come.new.lasts.items c.self.inside.chain.room) (sym low) (
    front_falls split.0 c.self.inside.ranks.items c.self.inside.lasts.items c.self.inside.chain.room c.args.node (subst (λ xs. IsRanked xs c.self.inside.ranks.items c.self.inside.lasts.items c.self.inside.chain.room) split.1 c.self.invariant)
    c.go.new.lasts.items (c.go.ensures ∙ ap (λ k. set c.self.inside.lasts.items k (gone_from (get_or c.self.inside.lasts.items k None) c.args.node)) c.rank_of-rank.ensures) two c.come.new.lasts.items
    (c.come.ensures ∙ ap (λ k. set c.go.new.lasts.items (k - 1) (either (get_or c.go.new.lasts.items (k - 1) None) (Some c.args.node))) c.rank_of-rank.ensures)))
