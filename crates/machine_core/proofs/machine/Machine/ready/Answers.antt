use Rattle.std.proofs.Common.{◌≡◌, ◌∙◌, ℕ, List, ap, subst}
use Rattle.event_model.specs.Events.{is_ready}
use Rattle.machine_core.specs.Ready.{is_ready_now}
use Rattle.machine_core.specs.View.{MachineView, tracks_of, state_of}
use Rattle.machine_core.proofs.StepLemmas.{ready_is}
use Rattle.machine_core.proofs.machine.Machine.ready.Goals as goal

pub returns : goal.returns
returns c =
    let a = c.self.inside in
    subst (λ (m : MachineView). c.is_ready_at.result ≡ is_ready (tracks_of m) (state_of m) c.args.t) c.self.view_is
    (c.is_ready_at.ensures ∙ ap (λ (done : List ℕ). is_ready_now a.trace a.held.owner done c.args.t) c.as_slice.ensures.value
    ∙ ready_is a.trace a.history.entries a.held a.progress a.faulted c.self.invariant c.args.t)
