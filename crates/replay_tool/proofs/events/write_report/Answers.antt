use Rattle.std.proofs.Common.{arith, sym, subst, ◌<◌, ℕ, List}
use Rattle.std.proofs.lemmas.Grind.{common_steps}
use Rattle.std.proofs.lemmas.Result.{err_from_is_err_and}
use Rattle.mem_base.specs.declared.history.Entry.{Entry}
use Rattle.mem_base.specs.declared.trace.Side.TheVariants as sides
use Rattle.trace_model.specs.Plain.{plain}
use Rattle.domain_api.specs.Held.{AreOut}
use Rattle.event_model.specs.Events.{left_in}
use Rattle.event_model.specs.Schedule.{FollowsTo}
use Rattle.machine_core.specs.View.{MachineView, tracks_of, state_of}
use Rattle.replay_tool.proofs.Kept.{known_now, less_left, goes_on, event_stops, event_trades, summary_ends}
use Rattle.replay_tool.proofs.Kept.{picked_now, picked_ready, follows_more, follows_still, whole_still}
use Rattle.replay_tool.proofs.Kept.{left_still, sound_still, going_still}
use Rattle.replay_tool.proofs.ServedLaws.{few_requests}
use Rattle.replay_tool.proofs.events.write_report.Goals as goal

pub one_event-requires-clause-ready : goal.one_event-requires-clause-ready
one_event-requires-clause-ready g c =
    let mid = c.next_track.new.machine in
    picked_ready c.in-Some.t mid (picked_now c.loop-t.machine mid c.next_track.ensures.same c.in-Some.t c.loop-t.invariant.follows c.in-Some.ensures.takes)

pub one_event-requires-clause-no_fault : goal.one_event-requires-clause-no_fault
one_event-requires-clause-no_fault g c = sound_still c.loop-t.machine c.next_track.new.machine c.next_track.ensures.same c.in-Some.ensures.no_fault

pub one_event-requires-clause-held : goal.one_event-requires-clause-held
one_event-requires-clause-held g c =
    subst (λ (m : MachineView). AreOut m.arenas m.raws (g.A.ArenaSource.seen c.loop-t.arenas) (g.R.RawSource.seen c.loop-t.raws)) (sym c.next_track.ensures.same) c.loop-t.invariant.held

pub one_event-requires-clause-arena : goal.one_event-requires-clause-arena
one_event-requires-clause-arena g c =
    let going = c.loop-t.invariant.going in
    omega (arith, going.served.arenas.asked, few_requests sides.Arena c.loop-t.machine.trace c.loop-t.machine.entries (known_now going c.trace-trace.ensures.known) going.legal, c.requires.arena)

pub one_event-requires-clause-raw : goal.one_event-requires-clause-raw
one_event-requires-clause-raw g c =
    let going = c.loop-t.invariant.going in
    omega (arith, going.served.raw.asked, few_requests sides.Raw c.loop-t.machine.trace c.loop-t.machine.entries (known_now going c.trace-trace.ensures.known) going.legal, c.requires.raw)

pub loop-t-init : goal.loop-t-init
loop-t-init g c = record {
  going = grind (arith, common_steps);
  follows = subst (λ (es : List Entry). FollowsTo (tracks_of c.args.machine.now) (plain c.args.machine.now.trace).picks es c.args.machine.now.picks) (sym c.requires.start) c.requires.picks;
  held = c.requires.held;
}

pub loop-t-smaller : goal.loop-t-smaller
loop-t-smaller g c =
    let old = c.loop-t.machine in
    let mid = c.next_track.new.machine in
    let new = c.one_event.new.machine in
    let same = c.next_track.ensures.same in
    subst (λ (n : ℕ). left_in (tracks_of new) (state_of new) < n) (left_still old mid same)
    (less_left c.in-Some.t _ _ _ c.trace-trace.ensures.known (going_still old mid same _ _ _ c.loop-t.invariant.going) (picked_now old mid same c.in-Some.t c.loop-t.invariant.follows c.in-Some.ensures.takes) c.in_ok-one_event.ensures.ends.more)

pub loop-t-preserved : goal.loop-t-preserved
loop-t-preserved g c =
    let old = c.loop-t.machine in
    let mid = c.next_track.new.machine in
    let same = c.next_track.ensures.same in
    let going = going_still old mid same _ _ _ c.loop-t.invariant.going in
    let picked = picked_now old mid same c.in-Some.t c.loop-t.invariant.follows c.in-Some.ensures.takes in
    let ends = c.in_ok-one_event.ensures.ends in
    record {
      going = goes_on c.in-Some.t _ _ _ c.trace-trace.ensures.known going picked ends.more ends.text;
      follows = follows_more c.in-Some.t _ _ _ c.trace-trace.ensures.known going picked ends.more;
      held = c.in_ok-one_event.ensures.held;
    }

pub returns-in_err-one_event-clause-ends : goal.returns-in_err-one_event-clause-ends
returns-in_err-one_event-clause-ends g c =
    let old = c.loop-t.machine in
    let mid = c.next_track.new.machine in
    let same = c.next_track.ensures.same in
    let p = err_from_is_err_and c.from_residual.result c.from_residual.ensures.1 in
    rw (p.1, p.2) (event_stops c.in-Some.t _ _ _ c.in_err-one_event.field-0.0 c.trace-trace.ensures.known (going_still old mid same _ _ _ c.loop-t.invariant.going)
    (picked_now old mid same c.in-Some.t c.loop-t.invariant.follows c.in-Some.ensures.takes) c.in_err-one_event.ensures.ends)

pub returns-in_err-one_event-clause-traded : goal.returns-in_err-one_event-clause-traded
returns-in_err-one_event-clause-traded g c =
    let old = c.loop-t.machine in
    let mid = c.next_track.new.machine in
    let same = c.next_track.ensures.same in
    event_trades c.in-Some.t _ _ _ c.in_err-one_event.field-0.0 c.trace-trace.ensures.known (going_still old mid same _ _ _ c.loop-t.invariant.going)
    (picked_now old mid same c.in-Some.t c.loop-t.invariant.follows c.in-Some.ensures.takes) c.in_err-one_event.ensures.ends

pub returns-clause-ends : goal.returns-clause-ends
returns-clause-ends g c =
    let old = c.loop-t.machine in
    let mid = c.next_track.new.machine in
    let same = c.next_track.ensures.same in
    summary_ends _ _ _ (going_still old mid same _ _ _ c.loop-t.invariant.going) (follows_still old mid same c.loop-t.invariant.follows) (whole_still old mid same c.in_default.ensures.none) c.write_summary.result c.write_summary.ensures

pub returns-clause-traded : goal.returns-clause-traded
returns-clause-traded g c =
    let going = going_still c.loop-t.machine c.next_track.new.machine c.next_track.ensures.same _ _ _ c.loop-t.invariant.going in
    record { arenas = going.traded.arenas; raws = going.traded.raws }
