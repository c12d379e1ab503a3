-- Which picks are left of a trace's list.
use Rattle.std.specs.Prelude.{ℕ, List, ◌++◌, drop, replicate}
use Rattle.mem_base.specs.declared.trace.Pick.{Pick}
use Rattle.trace_model.specs.Plain.{picks_of}
use Rattle.event_model.specs.Schedule.{one_by_one}
use Rattle.machine_core.specs.declared.picks.PicksLeft.{PicksLeft}

-- the picks left, one by one: the times that are left of the pick that was begun, and the picks behind it
abbrev pub left_of : List Pick → PicksLeft → List ℕ
left_of picks now = replicate now.times now.track ++ one_by_one (picks_of (drop now.next picks))
