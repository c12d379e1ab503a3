-- What the sources answered, from event to event.
use Rattle.std.proofs.Common.{◌≡◌, ℕ, ◌+◌, ◌<◌, ◌≤◌, Bool, true, false, List, [], ◌∷◌, ◌++◌, length, Option}
use Rattle.std.proofs.Common.{Some, None, refl, sym, ap, subst, ◌∙◌, arith, true≢false}
use Rattle.std.specs.Prelude.{◌||◌}
use Rattle.std.specs.Option.{option_map}
use Rattle.std.proofs.lemmas.Bool.{eqb-true}
use Rattle.std.proofs.lemmas.List.{length-map}
use Rattle.std.proofs.lemmas.List.Sums.{sum_by-cons}
use Rattle.mem_base.specs.Plan.{Plan, IsPlanned}
use Rattle.mem_base.specs.declared.history.Ask.{Ask}
use Rattle.mem_base.specs.declared.history.Ask.TheVariants as ask
use Rattle.mem_base.specs.declared.history.Grant.{Grant}
use Rattle.mem_base.specs.declared.history.Grant.TheVariants as grant
use Rattle.mem_base.specs.declared.history.Entry.{Entry}
use Rattle.mem_base.specs.declared.trace.Op.{Op}
use Rattle.mem_base.specs.declared.trace.Op.TheVariants as ops
use Rattle.mem_base.specs.declared.trace.Side.{Side}
use Rattle.mem_base.specs.declared.trace.Side.TheVariants as sides
use Rattle.mem_base.specs.declared.trace.Trace.{Trace}
use Rattle.mem_base.specs.declared.trace.Track.{Track}
use Rattle.trace_model.specs.Known.{IsKnownTrace, op_at, op_count}
use Rattle.mem_base.specs.Name.{Name}
use Rattle.trace_model.specs.Plain.{Action, IsKnownAmong, PlainTrack, refuse, action_of, plain, track_of, tracks_of}
use Rattle.trace_model.specs.Spelling.{action_count}
use Rattle.extents.specs.Extent.{Extent}
use Rattle.extents.specs.Sums.{tally}
use Rattle.sources.specs.Holder.{Answered, AskedNothing, Traded}
use Rattle.sources.specs.Source.{SourceView}
use Rattle.layout_model.specs.Asks.{FitsRequest, raw_was_asked, was_asked}
use Rattle.event_model.specs.State.{Held}
use Rattle.event_model.specs.Events.{action_after, next_action}
use Rattle.event_model.specs.History.{IsLegal, IsNext, last_state}
use Rattle.event_model.specs.Plans.{GrowsBy, Heeds, is_planned, lists}
use Rattle.request_model.specs.Counts.{arena_asks, asked_in, asks_in, raw_asks}
use Rattle.event_model.specs.Events.{next_request}
use Rattle.event_model.proofs.CallerLemmas.{legal_short}
use Rattle.event_model.proofs.CallerLemmas.{heeds_more, planned_more}
use Rattle.request_model.proofs.CallerLemmas.{asked_more, few_asked, refused_more}
use Rattle.domain_api.specs.Held.{AreAskedNothing}
use Rattle.block_store.specs.Sources.{Fails, FailsUnrefused, IsPassedOn}
use Rattle.machine_core.specs.View.{MachineView, Requests, tracks_of as tracks_in}
use Rattle.machine_core.proofs.CallerLemmas.{action_is}
use Rattle.replay_tool.specs.Replays.{Moment, OneMore}
use Rattle.replay_tool.specs.Served.{NearlyOn, Served, ServedNearly, ServedOn, Sources}

grows_none : (p : Plan) → GrowsBy (λ n. false) p p
grows_none None = refl
grows_none (Some plan) = λ n. refl

on_none : {S : Type 0} (side : Side) (tracks : List PlainTrack) (seen : SourceView S) → ServedOn side tracks [] seen seen
on_none side tracks seen = record {
  asked = omega arith;
  refused = omega arith;
  plan = grows_none seen.plan;
  heeds = tt;
  window = refl;
  shape = refl;
}

pub served_none : (tracks : List PlainTrack) (seen : Sources) → Served tracks [] seen seen
served_none tracks seen = record { arenas = on_none sides.Arena tracks seen.arenas; raw = on_none sides.Raw tracks seen.raw }

-- ---- a number that an operation lists is one of a later request

-- an operation that lists a request lists none before the next one
abbrev CountsUp : Action → Type 0
CountsUp (refuse side k) = 1 ≤ k
CountsUp a = Unit {0}

counts_up : (texts : List Name) (count : ℕ) (op : Op) → IsKnownAmong count op → CountsUp (action_of texts op)
counts_up texts count (ops.Refuse side k) known = known.0
counts_up texts count op known = tt

past : (side : Side) (asked n : ℕ) (a : Action) → CountsUp a → lists side asked (Some a) n ≡ true → asked < n
past sides.Arena asked n (refuse sides.Arena k) up h =
    let same : asked + k ≡ n = eqb-true (asked + k) n h in
    omega (arith, same, up)
past sides.Raw asked n (refuse sides.Raw k) up h =
    let same : asked + k ≡ n = eqb-true (asked + k) n h in
    omega (arith, same, up)
past sides.Arena asked n (refuse sides.Raw k) up h = absurd (true≢false (sym h))
past sides.Raw asked n (refuse sides.Arena k) up h = absurd (true≢false (sym h))
past sides.Arena asked n a up h = absurd (true≢false (sym h))
past sides.Raw asked n a up h = absurd (true≢false (sym h))

nothing_listed : (side : Side) (asked n : ℕ) → lists side asked None n ≡ false
nothing_listed sides.Arena asked n = refl
nothing_listed sides.Raw asked n = refl

lists_past : (side : Side) (trace : Trace) (t i asked n : ℕ) → IsKnownTrace trace → lists side asked (action_after (plain trace).tracks t i) n ≡ true → asked < n
lists_past side trace t i asked n known h =
    by (op_at trace.tracks t i) refl (subst (λ (a : Option Action). lists side asked a n ≡ true) (action_is trace.texts trace.tracks t i) h)
  where
    by : (o : Option Op) → op_at trace.tracks t i ≡ o → lists side asked (option_map (action_of trace.texts) o) n ≡ true → asked < n
    by None is l = absurd (true≢false (sym l ∙ nothing_listed side asked n))
    by (Some op) is l = past side asked n (action_of trace.texts op) (counts_up trace.texts (length trace.texts) op (known.ops t i op is).0) l

-- ---- an operation that asks a source lists nothing

no_arena : (g : Grant) → was_asked g ≡ false → arena_asks g ≡ 0
no_arena grant.NotAsked h = refl
no_arena grant.Refused h = absurd (true≢false h)
no_arena (grant.Granted pools) h = absurd (true≢false h)

no_raw : (a : Ask) → raw_was_asked a ≡ false → raw_asks a ≡ 0
no_raw ask.NotAsked h = refl
no_raw ask.Refused h = absurd (true≢false h)
no_raw ask.Granted h = absurd (true≢false h)

asks_alone : (side : Side) (h : Held) (t asked n : ℕ) (a : Option Action) (e : Entry)
    → FitsRequest h.layout (next_request h t a) e.arena e.raw → asks_in side e ≡ 1 → lists side asked a n ≡ false
asks_alone sides.Arena h t asked n (Some (refuse side k)) e fits one = absurd (omega (arith, one, no_arena e.arena fits.arena_asked))
asks_alone sides.Raw h t asked n (Some (refuse side k)) e fits one = absurd (omega (arith, one, no_raw e.raw fits.raw_asked))
asks_alone side h t asked n None e fits one = refl
asks_alone side h t asked n (Some a) e fits one = refl

-- a plan that did not grow by a number has it only if it had it
was_planned : (more : ℕ → Bool) (before now : Plan) (n : ℕ) → GrowsBy more before now → more n ≡ false → IsPlanned now n → IsPlanned before n
was_planned more None None n grows not planned = absurd planned
was_planned more None (Some now) n grows not planned = absurd cc
was_planned more (Some before) None n grows not planned = absurd planned
was_planned more (Some before) (Some now) n grows not planned = ap (λ (b : Bool). b || before n) (sym not) ∙ sym (grows n) ∙ planned

-- ---- one side

module _ {S : Type 0} (side : Side) where
  on_more : (trace : Trace) (es : List Entry) (e : Entry) (held held_then : List Extent) (first seen seen_then : SourceView S)
      → IsKnownTrace trace → IsNext (plain trace).tracks (last_state (plain trace).tracks es) e → ServedOn side (plain trace).tracks es first seen → Requests side trace es e held held_then seen seen_then
      → ServedOn side (plain trace).tracks (es ++ e ∷ []) first seen_then
  on_more trace es e held held_then first seen seen_then known next served asked =
      let tracks = (plain trace).tracks in
      let s = last_state tracks es in
      let a = next_action tracks s e.track in
      let grown = subst (λ (n : ℕ). GrowsBy (lists side n a) seen.plan seen_then.plan) served.asked asked.plan in
      record {
        asked = omega (arith, asked.answered.asked, served.asked, asked_more side es e);
        refused = omega (arith, asked.answered.refused, served.refused, refused_more side es e);
        plan = planned_more tracks side first.asked es e first.plan seen.plan seen_then.plan served.plan grown;
        heeds = heeds_more side first.asked es e (lists side (first.asked + asked_in side es) a) seen.plan seen_then.plan served.heeds grown
            (λ n listed. lists_past side trace e.track _ (first.asked + asked_in side es) n known listed)
            (λ one planned. asked.answered.heeded one (subst (λ (n : ℕ). IsPlanned seen.plan (n + 1)) (sym served.asked)
            (was_planned (lists side (first.asked + asked_in side es) a) seen.plan seen_then.plan (first.asked + asked_in side es + 1) grown
            (asks_alone side s.held e.track (first.asked + asked_in side es) (first.asked + asked_in side es + 1) a e next.fits one) planned)));
        window = asked.traded.window ∙ served.window;
        shape = asked.traded.shape ∙ served.shape;
      }

  on_nearly : (tracks : List PlainTrack) (es : List Entry) (first seen : SourceView S) → ServedOn side tracks es first seen
      → (n : NearlyOn side tracks es first seen) × (n.asks ≡ 0) × (n.refusals ≡ 0)
  on_nearly tracks es first seen served = (
    record {
      asks = 0;
      refusals = 0;
      few = (omega arith, omega arith);
      asked = omega (arith, served.asked);
      refused = omega (arith, served.refused);
      heeded = λ one planned. absurd (omega (arith, one));
      plan = served.plan;
      heeds = served.heeds;
      window = served.window;
      shape = served.shape;
    },
    refl,
    refl,
  )

  -- memory ran out in an event, for which the source was asked once at most
  on_failed : (tracks : List PlainTrack) (es : List Entry) (held : List Extent) (first seen seen_then : SourceView S) (asks refusals : ℕ)
      → ServedOn side tracks es first seen → (refusals ≤ asks) × (asks ≤ 1) → Answered asks refusals seen seen_then → seen_then.plan ≡ seen.plan → Traded held held seen seen_then
      → (n : NearlyOn side tracks es first seen_then) × (n.asks ≡ asks) × (n.refusals ≡ refusals)
  on_failed tracks es held first seen seen_then asks refusals served few answered same traded = (
    record {
      asks = asks;
      refusals = refusals;
      few = few;
      asked = omega (arith, served.asked, answered.asked);
      refused = omega (arith, served.refused, answered.refused);
      heeded = λ one planned. answered.heeded one (subst (λ (p : Plan). IsPlanned p (seen.asked + 1)) same
          (subst (λ (n : ℕ). IsPlanned seen_then.plan (n + 1)) (sym served.asked) planned));
      plan = subst (GrowsBy (is_planned tracks side first.asked es) first.plan) (sym same) served.plan;
      heeds = subst (λ (p : Plan). Heeds side p first.asked es) (sym same) served.heeds;
      window = traded.window ∙ served.window;
      shape = traded.shape ∙ served.shape;
    },
    refl,
    refl,
  )

  on_ended : (tracks : List PlainTrack) (es : List Entry) (held held_then : List Extent) (first seen seen_then : SourceView S) → ServedOn side tracks es first seen → AskedNothing seen seen_then → Traded held held_then seen seen_then
      → ServedOn side tracks es first seen_then
  on_ended tracks es held held_then first seen seen_then served none traded = record {
    asked = none.asked ∙ served.asked;
    refused = none.refused ∙ served.refused;
    plan = subst (GrowsBy (is_planned tracks side first.asked es) first.plan) (sym none.plan) served.plan;
    heeds = subst (λ (p : Plan). Heeds side p first.asked es) (sym none.plan) served.heeds;
    window = traded.window ∙ served.window;
    shape = traded.shape ∙ served.shape;
  }

  on_nearly_ended : (tracks : List PlainTrack) (es : List Entry) (held held_then : List Extent) (first seen seen_then : SourceView S)
      → (n : NearlyOn side tracks es first seen) → AskedNothing seen seen_then → Traded held held_then seen seen_then
      → (m : NearlyOn side tracks es first seen_then) × (m.asks ≡ n.asks) × (m.refusals ≡ n.refusals)
  on_nearly_ended tracks es held held_then first seen seen_then n none traded = (
    record {
      asks = n.asks;
      refusals = n.refusals;
      few = n.few;
      asked = none.asked ∙ n.asked;
      refused = none.refused ∙ n.refused;
      heeded = λ one planned. n.heeded one (subst (λ (p : Plan). IsPlanned p (first.asked + asked_in side es + 1)) none.plan planned);
      plan = subst (GrowsBy (is_planned tracks side first.asked es) first.plan) (sym none.plan) n.plan;
      heeds = subst (λ (p : Plan). Heeds side p first.asked es) (sym none.plan) n.heeds;
      window = traded.window ∙ n.window;
      shape = traded.shape ∙ n.shape;
    },
    refl,
    refl,
  )

-- ---- both sides

pub served_more : (t : ℕ) (old new : Moment) (more : OneMore t old new) (first : Sources) → IsKnownTrace old.machine.trace → Served (tracks_in old.machine) old.machine.entries first old.sources
    → Served (tracks_in old.machine) (old.machine.entries ++ more.entry ∷ []) first new.sources
served_more t old new more first known served = record {
  arenas = on_more sides.Arena old.machine.trace old.machine.entries more.entry old.machine.arenas new.machine.arenas first.arenas old.sources.arenas new.sources.arenas known more.next served.arenas more.arenas;
  raw = on_more sides.Raw old.machine.trace old.machine.entries more.entry old.machine.raws new.machine.raws first.raw old.sources.raw new.sources.raw known more.next served.raw more.raws;
}

-- memory ran out after an event
pub served_nearly : (tracks : List PlainTrack) (es : List Entry) (first seen : Sources) → Served tracks es first seen → ServedNearly tracks es first seen
served_nearly tracks es first seen served =
    let a = on_nearly sides.Arena tracks es first.arenas seen.arenas served.arenas in
    let r = on_nearly sides.Raw tracks es first.raw seen.raw served.raw in
    record { arenas = a.0; raw = r.0; unrefused = r.2; passed = omega (arith, a.2) }

-- memory ran out in an event
pub served_failed : (tracks : List PlainTrack) (es : List Entry) (m : MachineView) (first seen seen_then : Sources) → Served tracks es first seen
    → Fails m.arenas seen.arenas seen_then.arenas → FailsUnrefused m.raws seen.raw seen_then.raw → IsPassedOn seen.arenas seen_then.arenas seen.raw seen_then.raw
    → ServedNearly tracks es first seen_then
served_failed tracks es m first seen seen_then served arenas raws passed =
    let a = on_failed sides.Arena tracks es m.arenas first.arenas seen.arenas seen_then.arenas arenas.once.asks arenas.once.refusals served.arenas
    arenas.once.few arenas.once.answered arenas.once.plan arenas.traded in
    let r = on_failed sides.Raw tracks es m.raws first.raw seen.raw seen_then.raw raws.once.asks 0 served.raw
    (omega arith, raws.once.few) raws.once.answered raws.once.plan raws.traded in
    record {
      arenas = a.0;
      raw = r.0;
      unrefused = r.2;
      passed = omega (arith, a.2, r.1, arenas.once.answered.refused, raws.once.answered.asked, passed);
    }

-- all that is held goes back
pub served_ended : (tracks : List PlainTrack) (es : List Entry) (arenas raws : List Extent) (first seen seen_then : Sources) → Served tracks es first seen → AreAskedNothing seen.arenas seen_then.arenas seen.raw seen_then.raw
    → Traded arenas [] seen.arenas seen_then.arenas → Traded raws [] seen.raw seen_then.raw → Served tracks es first seen_then
served_ended tracks es arenas raws first seen seen_then served none arenas_back raws_back = record {
  arenas = on_ended sides.Arena tracks es arenas [] first.arenas seen.arenas seen_then.arenas served.arenas none.arena arenas_back;
  raw = on_ended sides.Raw tracks es raws [] first.raw seen.raw seen_then.raw served.raw none.raw raws_back;
}

pub nearly_ended : (tracks : List PlainTrack) (es : List Entry) (arenas raws : List Extent) (first seen seen_then : Sources) → ServedNearly tracks es first seen → AreAskedNothing seen.arenas seen_then.arenas seen.raw seen_then.raw
    → Traded arenas [] seen.arenas seen_then.arenas → Traded raws [] seen.raw seen_then.raw → ServedNearly tracks es first seen_then
nearly_ended tracks es arenas raws first seen seen_then served none arenas_back raws_back =
    let a = on_nearly_ended sides.Arena tracks es arenas [] first.arenas seen.arenas seen_then.arenas served.arenas none.arena arenas_back in
    let r = on_nearly_ended sides.Raw tracks es raws [] first.raw seen.raw seen_then.raw served.raw none.raw raws_back in
    record { arenas = a.0; raw = r.0; unrefused = r.2 ∙ served.unrefused; passed = omega (arith, a.2, r.1, served.passed) }

-- where a holder of nothing has nothing again, nothing more is out than was
pub none_out : {S : Type 0} (old new : SourceView S) → Traded [] [] old new → old.out ≡ [] → new.out ≡ []
none_out old new traded none = by new.out (traded.balance (λ (e : Extent). 1) ∙ ap (λ (l : List Extent). tally (λ (e : Extent). 1) l + 0) none)
  where
    by : (out : List Extent) → tally (λ (e : Extent). 1) out + 0 ≡ 0 → out ≡ []
    by [] h = refl
    by (e ∷ es) h = absurd (omega (arith, h))

-- ---- there are few requests

count_is : (texts : List Name) (ts : List Track) → action_count (tracks_of texts ts) ≡ op_count ts
count_is texts [] = refl
count_is texts (t ∷ ts) =
    omega (arith, count_is texts ts, length-map t.ops (action_of texts), sum_by-cons (λ (x : PlainTrack). length x.actions) (track_of texts t) (tracks_of texts ts), sum_by-cons (λ (x : Track). length x.ops) t ts)

pub few_requests : (side : Side) (trace : Trace) (es : List Entry) → IsKnownTrace trace → IsLegal (plain trace).tracks es → asked_in side es ≤ 262145
few_requests side trace es known legal = omega (arith, (few_asked side es).0, legal_short (plain trace).tracks es legal, count_is trace.texts trace.tracks, known.count)
