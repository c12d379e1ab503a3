use Rattle.std.proofs.Common.{[], None}
use Rattle.links.proofs.Calls.{none_linked, seen}
use Rattle.links.proofs.chain.Chain.with_room.Goals as goal

pub invariant_of-result : goal.invariant_of-result
invariant_of-result c = rw c.in_ok-links.ensures (seen _ None [] (none_linked c.args.n))
