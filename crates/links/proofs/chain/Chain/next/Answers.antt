use Rattle.links.proofs.Calls.{opened, inside_of, next_told}
use Rattle.links.proofs.chain.Chain.next.Goals as goal

pub get-requires : goal.get-requires
get-requires g c = let o = opened _ _ _ c.self.view_is c.self.invariant in inside_of _ _ _ _ o.linked c.requires

pub returns-clause-next : goal.returns-clause-next
returns-clause-next g c = let o = opened _ _ _ c.self.view_is c.self.invariant in rw (c.sides.ensures.1, c.get.ensures.links) (next_told _ _ _ _ o.linked)
