use Rattle.links.proofs.Calls.{opened, inside_of, prev_told}
use Rattle.links.proofs.chain.Chain.prev.Goals as goal

pub get-requires : goal.get-requires
get-requires g c = let o = opened _ _ _ c.self.view_is c.self.invariant in inside_of _ _ _ _ o.linked c.requires

pub returns-clause-prev : goal.returns-clause-prev
returns-clause-prev g c = let o = opened _ _ _ c.self.view_is c.self.invariant in rw (c.sides.ensures.0, c.get.ensures.links) (prev_told _ _ _ _ o.linked)
