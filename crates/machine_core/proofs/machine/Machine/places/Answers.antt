use Rattle.std.proofs.Common.{subst}
use Rattle.std.specs.Prelude.{IfOk}
use Rattle.std.proofs.lemmas.Result.{IfOk-weaker}
use Rattle.block_store.specs.Spots.{AreSpots}
use Rattle.machine_core.specs.Picks.{left_of}
use Rattle.machine_core.specs.Spots.{living_in}
use Rattle.machine_core.specs.View.{MachineView}
use Rattle.machine_core.proofs.SpotLemmas.{spots_are}
use Rattle.machine_core.proofs.machine.Machine.places.Goals as goal

pub returns : goal.returns
returns c =
    let a = c.self.inside in
    subst (λ (m : MachineView). IfOk c.spots.result (AreSpots (living_in m))) c.self.view_is
    (IfOk-weaker c.spots.result _ _
    (spots_are (left_of a.trace.picks a.picks) a.trace a.history.entries a.held a.progress a.faulted
    c.self.invariant) c.spots.ensures)
