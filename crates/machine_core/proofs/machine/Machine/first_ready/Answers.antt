use Rattle.std.proofs.Common.{◌≡◌, ℕ, Bool, subst, false}
use Rattle.std.specs.Prelude.{IfSome, IfNone}
use Rattle.event_model.specs.History.{IsDone}
use Rattle.event_model.specs.Schedule.{IsFirstReady}
use Rattle.machine_core.specs.View.{MachineView, tracks_of, state_of, ready_in}
use Rattle.machine_core.proofs.StepLemmas.{ready_is}
use Rattle.machine_core.proofs.machine.Machine.first_ready.Goals as goal

pub returns-clause-first : goal.returns-clause-first
returns-clause-first c =
    let a = c.self.inside in
    subst (λ (m : MachineView). IfSome c.first_ready_at.result (IsFirstReady (ready_in m))) c.self.view_is
    (subst (λ (ready : ℕ → Bool). IfSome c.first_ready_at.result (IsFirstReady ready))
    (λ i t. ready_is a.trace a.history.entries a.held a.progress a.faulted c.self.invariant t i)
    c.first_ready_at.ensures.first)

pub returns-clause-none : goal.returns-clause-none
returns-clause-none c =
    let a = c.self.inside in
    subst (λ (m : MachineView). IfNone c.first_ready_at.result (IsDone (tracks_of m) (state_of m))) c.self.view_is
    (subst (λ (ready : ℕ → Bool). IfNone c.first_ready_at.result ((t : ℕ) → ready t ≡ false))
    (λ i t. ready_is a.trace a.history.entries a.held a.progress a.faulted c.self.invariant t i)
    c.first_ready_at.ensures.none)
