use Rattle.std.proofs.Common.{◌≡◌, ℕ, Bool, List, Option, false, sym, subst}
use Rattle.std.specs.Prelude.{IfSome, IfNone}
use Rattle.event_model.specs.History.{IsDone}
use Rattle.event_model.specs.Schedule.{IsPicked, NoneIsReady, Takes}
use Rattle.machine_core.specs.Picks.{left_of}
use Rattle.machine_core.specs.Ready.{is_ready_now}
use Rattle.machine_core.specs.View.{MachineView, tracks_of, state_of, ready_in}
use Rattle.machine_core.proofs.PickLemmas.{some_takes, none_takes}
use Rattle.machine_core.proofs.StepLemmas.{ready_is}
use Rattle.machine_core.proofs.machine.Machine.next_track.Goals as goal
use Rattle.machine_core.proofs.machine.Machine.next_track.Goals.{in-Some, in-None}

pub returns-clause-takes : goal.returns-clause-takes
returns-clause-takes c =
    let a = c.self.inside in
    let before = left_of a.trace.picks a.picks in
    let left = left_of a.trace.picks c.take-picked.new.self in
    let now = is_ready_now a.trace a.held.owner a.progress.done.items in
    subst (λ (m : MachineView). IfSome c.match-picked.result (λ t. Takes (ready_in m) m.picks t left)) c.self.view_is
    (subst (λ (ready : ℕ → Bool). IfSome c.match-picked.result (λ t. Takes ready before t left))
    (λ i t. ready_is a.trace a.history.entries a.held a.progress a.faulted c.self.invariant t i)
    (elim c.match-picked.branch [
      | in-Some w ↦ subst (λ (r : Option ℕ). IfSome r (λ t. Takes now before t left)) (sym w.result-is)
          (some_takes now before left c.take-picked.result w.in-Some.t
          (subst (λ (d : List ℕ). IfSome c.take-picked.result
          (λ u. IsPicked (is_ready_now a.trace a.held.owner d) before u left)) c.as_slice.ensures.value
          c.take-picked.ensures.picked) w.in-Some.is)
      | in-None w ↦ subst (λ (r : Option ℕ). IfSome r (λ t. Takes now before t left)) (sym w.result-is)
          (none_takes now before left c.take-picked.result w.first_ready_at.result
          (subst (λ (d : List ℕ). IfNone c.take-picked.result
          (NoneIsReady (is_ready_now a.trace a.held.owner d) before)) c.as_slice.ensures.value
          c.take-picked.ensures.over)
          c.take-picked.ensures.none w.in-None.is
          w.first_ready_at.ensures.first)
    ]))

pub returns-clause-none : goal.returns-clause-none
returns-clause-none c =
    let a = c.self.inside in
    let now = is_ready_now a.trace a.held.owner a.progress.done.items in
    subst (λ (m : MachineView). IfNone c.match-picked.result (IsDone (tracks_of m) (state_of m))) c.self.view_is
    (subst (λ (ready : ℕ → Bool). IfNone c.match-picked.result ((t : ℕ) → ready t ≡ false))
    (λ i t. ready_is a.trace a.history.entries a.held a.progress a.faulted c.self.invariant t i)
    (elim c.match-picked.branch [
      | in-Some w ↦ subst (λ (r : Option ℕ). IfNone r ((t : ℕ) → now t ≡ false)) (sym w.result-is) tt
      | in-None w ↦ subst (λ (r : Option ℕ). IfNone r ((t : ℕ) → now t ≡ false)) (sym w.result-is)
          w.first_ready_at.ensures.none
    ]))
