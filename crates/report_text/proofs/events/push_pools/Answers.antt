use Rattle.report_text.proofs.Pieces.{pools_come_last}
use Rattle.report_text.proofs.events.push_pools.Goals as goal

pub returns-clause-ok : goal.returns-clause-ok
returns-clause-ok c =
    pools_come_last _ _ _ _ _ _ _ c.in-Some.ensures.cases.0 c.in_ok-push_pool.ensures.ok c.loop-pool.invariant
    c.loop-pool-test.false
