-- Which track is ready, by a machine's fields.
use Rattle.std.specs.Prelude.{ℕ, Bool, List, slice_index, Option}
use Rattle.mem_base.specs.declared.trace.Trace.{Trace}
use Rattle.trace_model.specs.Plain.{plain}
use Rattle.event_model.specs.Events.{may_do, action_after}

-- the track has an operation left and need not wait for another, by the owner of the lock and how many
-- operations each track has done
abbrev pub is_ready_now : Trace → Option ℕ → List ℕ → ℕ → Bool
is_ready_now trace owner done t = may_do owner t (action_after (plain trace).tracks t (slice_index done t))
