use Rattle.std.proofs.Common.{◌≡◌, ℕ, ◌<◌, false, get_or}
use Rattle.machine_core.specs.Ready.{is_ready_now}
use Rattle.machine_core.proofs.schedule.first_ready_at.Given as goal

-- no track of the list so far is ready
abbrev pub invariant-loop-i : goal.invariant-loop-i
invariant-loop-i l = (k : ℕ) → k < l.i
    → is_ready_now l.trace l.owner l.progress.done.items (get_or l.progress.unfinished.items k 0) ≡ false
