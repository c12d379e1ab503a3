use Rattle.std.proofs.Common.{arith}
use Rattle.py_heap.proofs.Linked.{leads_to}
use Rattle.py_heap.proofs.pools.Pools.follow.Goals as goal

pub returns : goal.returns
returns c = leads_to c.args.self.now.set c.args.link c.requires.marked.set c.requires.link (λ e. let w = c.if-link-eq0.false in omega arith) c.pool_at.result c.pool_at.ensures.own.1 c.pool_at.ensures.pool
