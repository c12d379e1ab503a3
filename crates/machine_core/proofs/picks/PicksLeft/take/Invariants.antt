use Rattle.std.proofs.Common.{◌-◌, length}
use Rattle.machine_core.specs.Picks.{left_of}
use Rattle.machine_core.specs.Ready.{is_ready_now}
use Rattle.machine_core.proofs.PickLemmas.{PassedOver}
use Rattle.machine_core.proofs.picks.PicksLeft.take.Given as goal

-- the picks so far were passed over
abbrev pub invariant-loop-owner : goal.invariant-loop-owner
invariant-loop-owner l = PassedOver (is_ready_now l.trace l.owner l.done) (left_of l.trace.picks l.fn.self)
    (left_of l.trace.picks l.self)

-- how many picks of the list are left
abbrev pub decreases-loop-owner : goal.decreases-loop-owner
decreases-loop-owner l = length l.trace.picks - l.self.next
