use Rattle.std.proofs.Common.{sym, ap, ◌∙◌, arith, refl}
use Rattle.std.proofs.Common.{List}
use Rattle.mem_base.specs.declared.trace.Pick.{Pick}
use Rattle.trace_model.specs.Plain.{picks_of}
use Rattle.event_model.specs.Schedule.{one_by_one}
use Rattle.machine_core.specs.Ready.{is_ready_now}
use Rattle.machine_core.proofs.PickLemmas.{begin_next, none_left, no_pick}
use Rattle.machine_core.proofs.picks.PicksLeft.take.Goals as goal

pub returns-in_default-clause-over : goal.returns-in_default-clause-over
returns-in_default-clause-over c =
    none_left (is_ready_now c.args.trace.now c.args.owner c.args.done.now) c.args.trace.now.picks _
    c.loop-owner.self c.loop-owner.invariant
    (sym c.is_open.ensures ∙ c.loop-owner-test.true) (sym c.in_default.ensures.value)

pub returns-in_default-clause-none : goal.returns-in_default-clause-none
returns-in_default-clause-none c =
    ap (λ (ps : List Pick). one_by_one (picks_of ps))
    (no_pick c.args.trace.now.picks c.loop-owner.self.next (sym c.in_default.ensures.value))

pub overflow_add-self : goal.overflow_add-self
overflow_add-self c = omega (arith, c.in-Some.ensures.within, c.len-count.ensures, c.len-count.type_inv)

pub loop-owner-preserved : goal.loop-owner-preserved
loop-owner-preserved c =
    begin_next (is_ready_now c.args.trace.now c.args.owner c.args.done.now) c.args.trace.now.picks _
    c.loop-owner.self c.loop-owner.invariant
    (record { track = c.in-Some.pick.now.track; times = c.in-Some.pick.now.times; next = _ }) c.in-Some.pick.now
    (sym c.is_open.ensures ∙ c.loop-owner-test.true) (sym c.in-Some.ensures.value) refl refl refl
