-- What a replay keeps from event to event.
use Rattle.std.proofs.Common.{◌≡◌, inl, inr, ℕ, ◌+◌, ◌<◌, List, [], ◌∷◌, ◌++◌, length, sym, ap, subst, ◌∙◌}
use Rattle.std.proofs.Common.{append-nil, length-append, slice_get, Result, Ok, Err, arith, take, true, false}
use Rattle.std.proofs.KnownBytes.{Appends-trans}
use Rattle.streams.specs.Faults.{raised}
use Rattle.mem_base.specs.declared.history.Entry.{Entry}
use Rattle.mem_base.specs.declared.reply.Step.{Step}
use Rattle.mem_base.specs.declared.trace.Trace.{Trace}
use Rattle.trace_model.specs.Known.{IsKnownTrace}
use Rattle.trace_model.specs.Plain.{PlainTrack, plain}
use Rattle.event_model.specs.Events.{action_after, left_in}
use Rattle.event_model.specs.History.{opening, last_state, IsLegal, IsWhole}
use Rattle.event_model.specs.Schedule.{one_by_one, Follows, FollowsTo, Takes}
use Rattle.event_model.proofs.CallerLemmas.{follows_push, legal_push, leaves_less, takes_ready}
use Rattle.report_model.specs.Report.{lines_for, event_text, events_text, summary_text}
use Rattle.report_model.proofs.CallerLemmas.{one_more}
use Rattle.extents.specs.Extent.{Extent}
use Rattle.sources.specs.Holder.{Traded}
use Rattle.sources.proofs.CallerLemmas.{traded_then}
use Rattle.machine_core.specs.View.{MachineView, tracks_of, state_of, ready_in, IsEvent}
use Rattle.report_text.specs.Texts.{step_text}
use Rattle.replay_tool.specs.declared.status.Halt.{Halt}
use Rattle.replay_tool.specs.declared.status.Halt.TheVariants.{WriteFault, OutOfMemory}
use Rattle.replay_tool.specs.Status.{Tells}
use Rattle.replay_tool.specs.Replays.{EventStops, ReportStops, ReportEnds, Moment, moment, OneMore, NoneMore}
use Rattle.replay_tool.specs.Replays.{LackedEvent, TradedBoth, text_from, replay_between, the_report}
use Rattle.replay_tool.specs.Replays.{RanWhole, RanUntilBroken, RanOut}
use Rattle.replay_tool.specs.Served.{Served, ServedNearly, Sources}
use Rattle.replay_tool.specs.Streams.{Stream, Wrote, BrokeWithin}
use Rattle.replay_tool.proofs.ServedLaws.{served_more, served_nearly, served_failed}

-- ---- the text of a step

-- what is printed of a step is the text of its event
pub step_text_is : (t : ℕ) (old : MachineView) (new : List Entry) (step : Step) → IsEvent old.trace old.entries new t step → step_text old.trace (length old.entries + 1) step ≡ text_from old step.entry
step_text_is t old new step is =
    λ i. lines_for (length old.entries + 1) (slice_get (tracks_of old) step.entry.track) (action_after (tracks_of old) step.entry.track (is.next.at i)) (is.reply i)

-- the buffer has that text, where a step's text was put into it
pub buffer_is : (t : ℕ) (old new : MachineView) (step : Step) (trace : Trace) (number : ℕ) (start buffer : List ℕ) → IsEvent old.trace old.entries new.entries t step
    → trace ≡ old.trace → number ≡ length new.entries → start ≡ [] → buffer ≡ start ++ step_text trace number step → buffer ≡ text_from old step.entry
buffer_is t old new step trace number start buffer did trace_is number_is start_is is =
    let numbered : number ≡ length old.entries + 1 = number_is ∙ ap length did.grows ∙ length-append old.entries (step.entry ∷ []) in
    is ∙ (λ i. start_is i ++ step_text (trace_is i) (numbered i) step) ∙ step_text_is t old new.entries step did

-- ---- texts one after another

-- one text was written, and then another
wrote_both : (a b c : Stream) (xs ys : List ℕ) → Wrote a b xs → Wrote b c ys → Wrote a c (xs ++ ys)
wrote_both a b c xs ys first second = record {
  bytes = Appends-trans a.bytes b.bytes c.bytes xs ys first.bytes second.bytes;
  calm = second.calm ∙ first.calm;
}

-- one text was written, and then a front of another
wrote_front : (a b c : Stream) (xs ys : List ℕ) → Wrote a b xs → BrokeWithin b c [] ys → BrokeWithin a c xs ys
wrote_front a b c xs ys first second = record {
  count = second.count;
  short = second.short;
  bytes = Appends-trans a.bytes b.bytes c.bytes xs (take second.count ys) first.bytes second.bytes;
  broke = second.broke ∙ ap raised first.calm;
}

-- ---- from event to event

-- the texts of the events so far were written, and the sources answered their requests
pub record Going (first now : Moment) : Type 0 where
  pub same : now.machine.trace ≡ first.machine.trace
  pub legal : IsLegal (tracks_of now.machine) now.machine.entries
  pub written : Wrote first.out now.out (events_text (tracks_of now.machine) now.machine.entries)
  pub served : Served (tracks_of now.machine) now.machine.entries first.sources now.sources
  pub traded : TradedBoth first now

-- the trace is known as long as it is the same
pub known_now : {first now : Moment} → Going first now → IsKnownTrace first.machine.trace → IsKnownTrace now.machine.trace
known_now going known = subst IsKnownTrace (sym going.same) known

-- regions were traded, and then again
traded_on : (a b c : Moment) → TradedBoth a b → TradedBoth b c → TradedBoth a c
traded_on a b c first second = record {
  arenas = traded_then a.machine.arenas b.machine.arenas c.machine.arenas a.sources.arenas b.sources.arenas c.sources.arenas first.arenas second.arenas;
  raws = traded_then a.machine.raws b.machine.raws c.machine.raws a.sources.raw b.sources.raw c.sources.raw first.raws second.raws;
}

-- ---- the schedule

-- a machine's history follows the picks of its trace, and leaves those that the machine has left
abbrev pub FollowsIts : MachineView → Type 0
FollowsIts m = FollowsTo (tracks_of m) (plain m.trace).picks m.entries m.picks

-- a machine's history follows the picks of its trace
abbrev pub FollowsSome : MachineView → Type 0
FollowsSome m = Follows (tracks_of m) (plain m.trace).picks m.entries

-- the schedule took this track for the event that comes next
pub record Picked (t : ℕ) (m : MachineView) : Type 0 where
  pub before : List ℕ
  pub follows : FollowsTo (tracks_of m) (plain m.trace).picks m.entries before
  pub takes : Takes (ready_in m) before t m.picks

-- machines that differ in the picks that are left
module _ (old new : MachineView) (same : new ≡ record old { picks = new.picks }) where
  pub picked_now : (t : ℕ) → FollowsIts old → Takes (ready_in old) old.picks t new.picks → Picked t new
  picked_now t follows takes =
      subst (Picked t) (sym same) (record { before = old.picks; follows = follows; takes = takes })

  pub follows_still : FollowsIts old → FollowsSome new
  follows_still follows = subst FollowsSome (sym same) (old.picks, follows)

  pub whole_still : IsWhole (tracks_of old) old.entries → IsWhole (tracks_of new) new.entries
  whole_still whole = subst (λ (m : MachineView). IsWhole (tracks_of m) m.entries) (sym same) whole

  pub left_still : left_in (tracks_of new) (state_of new) ≡ left_in (tracks_of old) (state_of old)
  left_still = ap (λ (m : MachineView). left_in (tracks_of m) (state_of m)) same

  pub sound_still : (state_of old).faulted ≡ false → (state_of new).faulted ≡ false
  sound_still sound = ap (λ (m : MachineView). (state_of m).faulted) same ∙ sound

  pub held_still : {A : Type 0} (f : List Extent → List Extent → A → Type 0) (x : A) → f old.arenas old.raws x → f new.arenas new.raws x
  held_still f x held = subst (λ (m : MachineView). f m.arenas m.raws x) (sym same) held

  pub going_still : (first : Moment) (out : Stream) (sources : Sources) → Going first (moment old out sources) → Going first (moment new out sources)
  going_still first out sources going =
      subst (λ (m : MachineView). Going first (moment m out sources)) (sym same) (record {
        same = going.same;
        legal = going.legal;
        written = going.written;
        served = going.served;
        traded = record { arenas = going.traded.arenas; raws = going.traded.raws };
      })

-- the track that the schedule took is ready
pub picked_ready : (t : ℕ) (m : MachineView) → Picked t m → ready_in m t ≡ true
picked_ready t m picked = takes_ready (ready_in m) picked.before t m.picks picked.takes

-- one more event: its trace, that its history is legal, and its texts
module _ (t : ℕ) (first old new : Moment) (known : IsKnownTrace first.machine.trace) (going : Going first old) (picked : Picked t old.machine) (more : OneMore t old new) where
  abbrev then : List Entry
  then = old.machine.entries ++ more.entry ∷ []

  tracks_same : tracks_of new.machine ≡ tracks_of old.machine
  tracks_same = ap (λ (t : Trace). (plain t).tracks) more.same

  -- what holds of the old machine's tracks and the longer history holds of the new machine
  carried : (P : List PlainTrack → List Entry → Type 0) → P (tracks_of old.machine) then → P (tracks_of new.machine) new.machine.entries
  carried P p = subst (λ (t : List PlainTrack). P t new.machine.entries) (sym tracks_same) (subst (P (tracks_of old.machine)) (sym more.grows) p)

  legal_more : IsLegal (tracks_of new.machine) new.machine.entries
  legal_more = carried IsLegal (legal_push (tracks_of old.machine) (opening (tracks_of old.machine)) old.machine.entries more.entry going.legal more.next)

  served_then : Served (tracks_of new.machine) new.machine.entries first.sources new.sources
  served_then =
      carried (λ (t : List PlainTrack) (es : List Entry). Served t es first.sources new.sources)
      (served_more t old new more first.sources (known_now going known) going.served)

  -- the schedule took its track
  pub follows_more : FollowsIts new.machine
  follows_more =
      subst (λ (x : Trace). FollowsTo (plain x).tracks (plain x).picks new.machine.entries new.machine.picks) (sym more.same)
      (subst (λ (es : List Entry). FollowsTo (tracks_of old.machine) (plain old.machine.trace).picks es new.machine.picks) (sym more.grows)
      (subst (FollowsTo (tracks_of old.machine) (plain old.machine.trace).picks then) (sym more.picks)
      (follows_push (tracks_of old.machine) (opening (tracks_of old.machine)) (one_by_one (plain old.machine.trace).picks) old.machine.entries more.entry picked.before old.machine.picks picked.follows
      (subst (λ (u : ℕ). Takes (ready_in old.machine) picked.before u old.machine.picks) (sym more.track) picked.takes))))

  texts_then : events_text (tracks_of old.machine) then ≡ events_text (tracks_of old.machine) old.machine.entries ++ text_from old.machine more.entry
  texts_then = one_more (event_text (tracks_of old.machine)) (tracks_of old.machine) old.machine.entries more.entry

  pub traded_more : TradedBoth first new
  traded_more = traded_on first old new going.traded (record { arenas = more.arenas.traded; raws = more.raws.traded })

  pub less_left : left_in (tracks_of new.machine) (state_of new.machine) < left_in (tracks_of old.machine) (state_of old.machine)
  less_left =
      carried (λ (t : List PlainTrack) (es : List Entry). left_in t (last_state t es) < left_in (tracks_of old.machine) (state_of old.machine))
      (leaves_less (tracks_of old.machine) old.machine.entries more.entry more.next)

  pub goes_on : Wrote old.out new.out (text_from old.machine more.entry) → Going first new
  goes_on text = record {
    same = more.same ∙ going.same;
    legal = legal_more;
    written = carried (λ (t : List PlainTrack) (es : List Entry). Wrote first.out new.out (events_text t es))
        (subst (Wrote first.out new.out) (sym texts_then) (wrote_both first.out old.out new.out _ _ going.written text));
    served = served_then;
    traded = traded_more;
  }

  -- a write failed within the text of the last event
  broke_there : BrokeWithin old.out new.out [] (text_from old.machine more.entry) → RanUntilBroken the_report (replay_between first new)
  broke_there front = record {
    legal = legal_more;
    follows = (new.machine.picks, follows_more);
    broke = inl (record {
      earlier = old.machine.entries;
      last = more.entry;
      text = text_from old.machine more.entry;
      all = more.grows;
      adds = ap (λ (t : List PlainTrack). events_text t new.machine.entries) tracks_same ∙ ap (events_text (tracks_of old.machine)) more.grows ∙ texts_then
          ∙ ap (λ (t : List PlainTrack). events_text t old.machine.entries ++ text_from old.machine more.entry) (sym tracks_same);
      written = subst (λ (t : List PlainTrack). BrokeWithin first.out new.out (events_text t old.machine.entries) (text_from old.machine more.entry)) (sym tracks_same)
          (wrote_front first.out old.out new.out _ _ going.written front);
    });
    served = served_then;
  }

  -- there was no memory for the text of the last event
  lacked_text : new.out ≡ old.out → RanOut the_report (replay_between first new)
  lacked_text kept = record {
    legal = legal_more;
    follows = (new.machine.picks, follows_more);
    earlier = old.machine.entries;
    later = more.entry ∷ [];
    all = more.grows;
    few = omega arith;
    written = subst (λ (o : Stream). Wrote first.out o (events_text (tracks_of new.machine) old.machine.entries)) (sym kept)
        (subst (λ (t : List PlainTrack). Wrote first.out old.out (events_text t old.machine.entries)) (sym tracks_same) going.written);
    served = served_nearly (tracks_of new.machine) new.machine.entries first.sources new.sources served_then;
  }

-- memory ran out in an event, which was not done
module _ (t : ℕ) (first old new : Moment) (going : Going first old) (picked : Picked t old.machine) (none : NoneMore old new) where
  -- what holds of the old machine holds of the new one
  unmoved : (P : MachineView → Type 0) → P old.machine → P new.machine
  unmoved P p = subst P (sym none.same) p

  traded_none : TradedBoth first new
  traded_none =
      traded_on first old new going.traded (record {
        arenas = unmoved (λ (m : MachineView). Traded old.machine.arenas m.arenas old.sources.arenas new.sources.arenas) none.arenas.traded;
        raws = unmoved (λ (m : MachineView). Traded old.machine.raws m.raws old.sources.raw new.sources.raw) none.raws.traded;
      })

  lacked_event : new.out ≡ old.out → RanOut the_report (replay_between first new)
  lacked_event kept = record {
    legal = unmoved (λ (m : MachineView). IsLegal (tracks_of m) m.entries) going.legal;
    follows = unmoved FollowsSome (picked.before, picked.follows);
    earlier = new.machine.entries;
    later = [];
    all = sym (append-nil new.machine.entries);
    few = omega arith;
    written = subst (λ (o : Stream). Wrote first.out o (events_text (tracks_of new.machine) new.machine.entries)) (sym kept)
        (unmoved (λ (m : MachineView). Wrote first.out old.out (events_text (tracks_of m) m.entries)) going.written);
    served = unmoved (λ (m : MachineView). ServedNearly (tracks_of m) m.entries first.sources new.sources)
        (served_failed (tracks_of old.machine) old.machine.entries old.machine first.sources old.sources new.sources going.served none.arenas none.raws none.passed);
  }

-- memory ran out, in an event or for its text
lacked : (t : ℕ) (first old new : Moment) → IsKnownTrace first.machine.trace → Going first old → Picked t old.machine → LackedEvent t old new → RanOut the_report (replay_between first new)
lacked t first old new known going picked l = elim l.did [
  | inl none ↦ lacked_event t first old new going picked none l.out
  | inr more ↦ lacked_text t first old new known going picked more l.out
]

traded_lacked : (t : ℕ) (first old new : Moment) → IsKnownTrace first.machine.trace → Going first old → Picked t old.machine → LackedEvent t old new → TradedBoth first new
traded_lacked t first old new known going picked l = elim l.did [
  | inl none ↦ traded_none t first old new going picked none
  | inr more ↦ traded_more t first old new known going picked more
]

-- the event that stopped a replay
pub event_stops : (t : ℕ) (first old new : Moment) (h : Halt) → IsKnownTrace first.machine.trace → Going first old → Picked t old.machine → EventStops t old new h → ReportStops (replay_between first new) h
event_stops t first old new WriteFault known going picked e = broke_there t first old new known going picked e.more e.front
event_stops t first old new OutOfMemory known going picked e = lacked t first old new known going picked e

pub event_trades : (t : ℕ) (first old new : Moment) (h : Halt) → IsKnownTrace first.machine.trace → Going first old → Picked t old.machine → EventStops t old new h → TradedBoth first new
event_trades t first old new WriteFault known going picked e = traded_more t first old new known going picked e.more
event_trades t first old new OutOfMemory known going picked e = traded_lacked t first old new known going picked e

-- ---- the summary

module _ (first last : Moment) (out : Stream) (going : Going first last) (follows : FollowsSome last.machine) (whole : IsWhole (tracks_of last.machine) last.machine.entries) where
  abbrev ended : Moment
  ended = record last { out = out }

  wrote_summary : Wrote last.out out (summary_text (tracks_of last.machine) last.machine.entries) → RanWhole the_report (replay_between first ended)
  wrote_summary text = record { legal = going.legal; follows = follows; whole = whole; written = wrote_both first.out last.out out _ _ going.written text; served = going.served }

  broke_summary : BrokeWithin last.out out [] (summary_text (tracks_of last.machine) last.machine.entries) → RanUntilBroken the_report (replay_between first ended)
  broke_summary front = record {
    legal = going.legal;
    follows = follows;
    broke = inr (record { whole = whole; written = wrote_front first.out last.out out _ _ going.written front });
    served = going.served;
  }

  lacked_summary : out ≡ last.out → RanOut the_report (replay_between first ended)
  lacked_summary kept = record {
    legal = going.legal;
    follows = follows;
    earlier = last.machine.entries;
    later = [];
    all = sym (append-nil last.machine.entries);
    few = omega arith;
    written = subst (λ (o : Stream). Wrote first.out o (events_text (tracks_of last.machine) last.machine.entries)) (sym kept) going.written;
    served = served_nearly (tracks_of last.machine) last.machine.entries first.sources last.sources going.served;
  }

  pub summary_ends : {T : Type 0} (r : Result T Halt) → Tells (summary_text (tracks_of last.machine) last.machine.entries) last.out out r → ReportEnds (replay_between first ended) r
  summary_ends (Ok done) told = wrote_summary told
  summary_ends (Err WriteFault) told = broke_summary told
  summary_ends (Err OutOfMemory) told = lacked_summary told
