use Rattle.std.proofs.Common.{[], None, refl, ◌∙◌, arith}
use Rattle.links.proofs.Calls.{opened, put_links, put_counts, seen, chain_of, front_inside}
use Rattle.links.proofs.LinkLemmas.{nodes_of-linked}
use Rattle.links.proofs.Puts.{put_first_is}
use Rattle.links.proofs.chain.Chain.push_front.Goals as goal

pub put_first-requires-clause-after : goal.put_first-requires-clause-after
put_first-requires-clause-after g c = let o = opened _ _ _ c.self.view_is c.self.invariant in front_inside _ _ _ o.linked

pub invariant_of-self : goal.invariant_of-self
invariant_of-self g c =
    let o = opened _ _ _ c.self.view_is c.self.invariant in
    let h = rw o.room at c.requires.below in
    let e = c.put_first.ensures.links ∙ put_first_is _ _ _ c.args.node o.linked c.requires.out in
    seen _ _ _ (put_links _ _ _ None _ c.args.node o.linked h c.requires.out _ _ e refl [] _ refl refl o.linked.begins)

pub returns-clause-nodes : goal.returns-clause-nodes
returns-clause-nodes g c =
    let o = opened _ _ _ c.self.view_is c.self.invariant in
    let h = rw o.room at c.requires.below in
    let e = c.put_first.ensures.links ∙ put_first_is _ _ _ c.args.node o.linked c.requires.out in
    nodes_of-linked _ _ _ (put_links _ _ _ None _ c.args.node o.linked h c.requires.out _ _ e refl [] _ refl refl o.linked.begins)

pub returns-clause-chain : goal.returns-clause-chain
returns-clause-chain g c =
    let o = opened _ _ _ c.self.view_is c.self.invariant in
    let h = rw o.room at c.requires.below in
    let e = c.put_first.ensures.links ∙ put_first_is _ _ _ c.args.node o.linked c.requires.out in
    chain_of _ _ _ (seen _ _ _ (put_links _ _ _ None _ c.args.node o.linked h c.requires.out _ _ e refl [] _ refl refl o.linked.begins))

pub returns-clause-steps : goal.returns-clause-steps
returns-clause-steps g c =
    let o = opened _ _ _ c.self.view_is c.self.invariant in
    let h = rw o.room at c.requires.below in
    let e = c.put_first.ensures.links ∙ put_first_is _ _ _ c.args.node o.linked c.requires.out in
    let s = c.put_first.ensures.steps in
    put_counts _ _ [] _ _ _ _ None _ (put_links _ _ _ None _ c.args.node o.linked h c.requires.out _ _ e refl [] _ refl refl o.linked.begins) refl o.linked.begins (omega arith)
