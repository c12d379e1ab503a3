use Rattle.std.proofs.Common.{◌∷◌, Some, refl, ◌∙◌, arith}
use Rattle.links.proofs.NodeLemmas.{split}
use Rattle.links.proofs.Calls.{opened, inside_of, gap_before, before_inside, prev_told, put_links, put_counts, seen, chain_of}
use Rattle.links.proofs.LinkLemmas.{nodes_of-linked}
use Rattle.links.proofs.Puts.{put_before_is}
use Rattle.links.proofs.chain.Chain.insert_before.Goals as goal

pub put_before-before-requires-clause-at : goal.put_before-before-requires-clause-at
put_before-before-requires-clause-at g c = let o = opened _ _ _ c.self.view_is c.self.invariant in inside_of _ _ _ _ o.linked c.requires.at

pub put_before-before-requires-clause-before : goal.put_before-before-requires-clause-before
put_before-before-requires-clause-before g c = let o = opened _ _ _ c.self.view_is c.self.invariant in before_inside _ _ _ _ _ o.linked (gap_before _ _ _ _ o.linked c.requires.at)

pub invariant_of-self : goal.invariant_of-self
invariant_of-self g c =
    let o = opened _ _ _ c.self.view_is c.self.invariant in
    let h = rw o.room at c.requires.below in
    let before = c.put_before-before.ensures.before in
    let e = c.put_before-before.ensures.links ∙ put_before_is _ _ _ c.args.node o.linked c.requires.out c.args.at c.requires.at _ before in
    let p = split _ _ c.requires.at in
    seen _ _ _ (put_links _ _ _ _ (Some c.args.at) c.args.node o.linked h c.requires.out _ _ e c.front_of-self-inside.ensures p.before (c.args.at ∷ p.after) p.all (before ∙ prev_told _ _ _ _ o.linked p.before p.after p.all) refl)

pub returns-clause-nodes : goal.returns-clause-nodes
returns-clause-nodes g c =
    let o = opened _ _ _ c.self.view_is c.self.invariant in
    let h = rw o.room at c.requires.below in
    let before = c.put_before-before.ensures.before in
    let e = c.put_before-before.ensures.links ∙ put_before_is _ _ _ c.args.node o.linked c.requires.out c.args.at c.requires.at _ before in
    λ front rest all. nodes_of-linked _ _ _ (put_links _ _ _ _ (Some c.args.at) c.args.node o.linked h c.requires.out _ _ e c.front_of-self-inside.ensures front (c.args.at ∷ rest) all (before ∙ prev_told _ _ _ _ o.linked front rest all) refl)

pub returns-clause-chain : goal.returns-clause-chain
returns-clause-chain g c =
    let o = opened _ _ _ c.self.view_is c.self.invariant in
    let h = rw o.room at c.requires.below in
    let before = c.put_before-before.ensures.before in
    let e = c.put_before-before.ensures.links ∙ put_before_is _ _ _ c.args.node o.linked c.requires.out c.args.at c.requires.at _ before in
    let p = split _ _ c.requires.at in
    chain_of _ _ _ (seen _ _ _ (put_links _ _ _ _ (Some c.args.at) c.args.node o.linked h c.requires.out _ _ e c.front_of-self-inside.ensures p.before (c.args.at ∷ p.after) p.all (before ∙ prev_told _ _ _ _ o.linked p.before p.after p.all) refl))

pub returns-clause-steps : goal.returns-clause-steps
returns-clause-steps g c =
    let o = opened _ _ _ c.self.view_is c.self.invariant in
    let h = rw o.room at c.requires.below in
    let before = c.put_before-before.ensures.before in
    let e = c.put_before-before.ensures.links ∙ put_before_is _ _ _ c.args.node o.linked c.requires.out c.args.at c.requires.at _ before in
    let p = split _ _ c.requires.at in
    let last = before ∙ prev_told _ _ _ _ o.linked p.before p.after p.all in
    let s = c.put_before-before.ensures.steps in
    put_counts _ _ p.before (c.args.at ∷ p.after) _ _ _ _ (Some c.args.at) (put_links _ _ _ _ (Some c.args.at) c.args.node o.linked h c.requires.out _ _ e c.front_of-self-inside.ensures p.before (c.args.at ∷ p.after) p.all last refl) last refl (omega arith)
