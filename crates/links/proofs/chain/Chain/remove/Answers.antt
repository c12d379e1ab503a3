use Rattle.links.proofs.NodeLemmas.{split}
use Rattle.links.proofs.LinkLemmas.{nodes_of-linked}
use Rattle.links.proofs.Calls.{opened, inside_of, gap_before, gap_after, before_inside, after_inside, prev_told, next_told, taken_links, counts, seen, chain_of}
use Rattle.links.proofs.chain.Chain.remove.Goals as goal

pub take_out-before-requires-clause-node : goal.take_out-before-requires-clause-node
take_out-before-requires-clause-node g c = let o = opened _ _ _ c.self.view_is c.self.invariant in inside_of _ _ _ _ o.linked c.requires

pub take_out-before-requires-clause-before : goal.take_out-before-requires-clause-before
take_out-before-requires-clause-before g c = let o = opened _ _ _ c.self.view_is c.self.invariant in before_inside _ _ _ _ _ o.linked (gap_before _ _ _ _ o.linked c.requires)

pub take_out-before-requires-clause-after : goal.take_out-before-requires-clause-after
take_out-before-requires-clause-after g c = let o = opened _ _ _ c.self.view_is c.self.invariant in after_inside _ _ _ _ _ o.linked (gap_after _ _ _ _ o.linked c.requires)

pub invariant_of-self : goal.invariant_of-self
invariant_of-self g c =
    let o = opened _ _ _ c.self.view_is c.self.invariant in
    let t = c.take_out-before.ensures in
    let p = split _ _ c.requires in
    seen _ _ _ (taken_links _ _ _ _ _ c.args.node o.linked t.before t.after _ _ t.links c.front_of-self-inside.ensures p.before p.after p.all)

pub returns-clause-nodes : goal.returns-clause-nodes
returns-clause-nodes g c =
    let o = opened _ _ _ c.self.view_is c.self.invariant in
    let t = c.take_out-before.ensures in
    λ before after all. nodes_of-linked _ _ _ (taken_links _ _ _ _ _ c.args.node o.linked t.before t.after _ _ t.links c.front_of-self-inside.ensures before after all)

pub returns-clause-chain : goal.returns-clause-chain
returns-clause-chain g c =
    let o = opened _ _ _ c.self.view_is c.self.invariant in
    let t = c.take_out-before.ensures in
    let p = split _ _ c.requires in
    chain_of _ _ _ (seen _ _ _ (taken_links _ _ _ _ _ c.args.node o.linked t.before t.after _ _ t.links c.front_of-self-inside.ensures p.before p.after p.all))

pub returns-clause-steps : goal.returns-clause-steps
returns-clause-steps g c =
    let o = opened _ _ _ c.self.view_is c.self.invariant in
    let t = c.take_out-before.ensures in
    counts _ c.args.self.now.nodes _ _ c.take_out-before.result.0 c.take_out-before.result.1 t.steps (rw t.before (prev_told _ _ _ _ o.linked)) (rw t.after (next_told _ _ _ _ o.linked))
