use Rattle.links.proofs.Calls.{opened, reserved_seen, reserved_nodes, chain_of}
use Rattle.links.proofs.chain.Chain.reserve.Goals as goal

pub invariant_of-self : goal.invariant_of-self
invariant_of-self c = let o = opened _ _ _ c.self.view_is c.self.invariant in reserved_seen _ _ _ _ _ c.reserve.result c.reserve.ensures.ok c.reserve.ensures.err o.linked

pub returns-clause-nodes : goal.returns-clause-nodes
returns-clause-nodes c = let o = opened _ _ _ c.self.view_is c.self.invariant in reserved_nodes _ _ _ _ _ c.reserve.result c.reserve.ensures.ok c.reserve.ensures.err o.linked

pub returns-clause-chain : goal.returns-clause-chain
returns-clause-chain c = let o = opened _ _ _ c.self.view_is c.self.invariant in chain_of _ _ _ (reserved_seen _ _ _ _ _ c.reserve.result c.reserve.ensures.ok c.reserve.ensures.err o.linked)
