-- Each event leaves less to do.
use Rattle.std.proofs.Common.{◌≡◌, ℕ, zero, suc, ◌+◌, ◌<◌, ◌≤◌, Bool, true, false, cond, List, [], ◌∷◌, ◌++◌}
use Rattle.std.proofs.Common.{length, slice_get, set, map, Option, Some, None, refl, sym, ap, subst, ◌∙◌}
use Rattle.std.proofs.Common.{arith, length-set, true≢false}
use Rattle.std.specs.Prelude.{slice_index}
use Rattle.std.specs.Option.{option_and_then}
use Rattle.std.proofs.lemmas.Option.{slice_get_within}
use Rattle.std.proofs.lemmas.List.Sums.{sum_by-cons}
use Rattle.mem_base.specs.declared.history.Entry.{Entry}
use Rattle.trace_model.specs.Plain.{Action, PlainTrack}
use Rattle.trace_model.specs.Spelling.{action_count}
use Rattle.event_model.specs.Deeds.{deed_of}
use Rattle.event_model.specs.Effects.{act}
use Rattle.event_model.specs.Events.{event, event_of, settle, advance, next_action, may_do, ops_left, left_in}
use Rattle.event_model.specs.History.{opening, state_after, last_state, IsNext, IsLegalFrom, IsLegal}
use Rattle.event_model.specs.Replies.{PlainReply, is_fault}
use Rattle.event_model.specs.State.{Held, State}
use Rattle.event_model.proofs.HistoryLaws.{state_push}

-- ---- as many tracks as there were

settle_length : (tracks : List PlainTrack) (t : ℕ) (s : State) (r : Held × PlainReply)
    → length (settle tracks t s r).done ≡ length s.done
settle_length tracks t s r = by (is_fault r.1)
  where
    by : (b : Bool) → length (cond b (record s { faulted = true }) (advance tracks t s r.0)).done ≡ length s.done
    by true = refl
    by false = length-set s.done t (slice_index s.done t + 1)

pub event_length : (tracks : List PlainTrack) (s : State) (e : Entry) → length (event tracks s e).0.done ≡ length s.done
unfolding event
event_length tracks s e = by (next_action tracks s e.track)
  where
    by : (o : Option Action) → length (event_of tracks s e.track e.arena e.raw o).0.done ≡ length s.done
    by None = refl
    by (Some a) = settle_length tracks e.track s (act s.held e.track (deed_of a) e.arena e.raw)

after_length : (tracks : List PlainTrack) (s : State) (es : List Entry) → length (state_after tracks s es).done ≡ length s.done
after_length tracks s [] = refl
after_length tracks s (e ∷ es) = after_length tracks (event tracks s e).0 es ∙ event_length tracks s e

abbrev pub none_done : List PlainTrack → List ℕ
none_done tracks = map (λ t. 0) tracks

pub map_length : (tracks : List PlainTrack) → length (none_done tracks) ≡ length tracks
map_length [] = refl
map_length (t ∷ ts) = ap suc (map_length ts)

pub done_length : (tracks : List PlainTrack) (es : List Entry) → length (last_state tracks es).done ≡ length tracks
done_length tracks es = after_length tracks (opening tracks) es ∙ map_length tracks

-- ---- one operation less

ops_less : (ts : List PlainTrack) (ds : List ℕ) (t : ℕ) (track : PlainTrack) → slice_get ts t ≡ Some track
    → t < length ds → slice_index ds t < length track.actions
    → ops_left ts (set ds t (slice_index ds t + 1)) + 1 ≡ ops_left ts ds
ops_less [] ds t track is lt some = absurd cc
ops_less (x ∷ ts) [] t track is lt some = absurd (omega arith)
ops_less (x ∷ ts) (d ∷ ds) zero track is lt some =
    let same : x ≡ track = cc in
    let len : length x.actions ≡ length track.actions = ap (λ (y : PlainTrack). length y.actions) same in
    omega (arith, len, some)
ops_less (x ∷ ts) (d ∷ ds) (suc t) track is lt some = omega (arith, ops_less ts ds t track is (omega arith) some)

pub waits : (owner : Option ℕ) (t : ℕ) (o : Option Action) → may_do owner t o ≡ true → (a : Action) × (o ≡ Some a)
waits owner t None h = absurd (true≢false (sym h))
waits owner t (Some a) h = (a, refl)

pub at_track : (o : Option PlainTrack) (d : ℕ) (a : Action)
    → option_and_then (λ track. slice_get track.actions d) o ≡ Some a
    → (track : PlainTrack) × (o ≡ Some track) × (slice_get track.actions d ≡ Some a)
at_track None d a h = absurd cc
at_track (Some track) d a h = (track, refl, h)

-- what a fault that may come still weighs
abbrev weight : Bool → ℕ
weight b = cond b 0 1

-- what is left where one operation is done, or a fault comes
less : (tracks : List PlainTrack) (s : State) (t : ℕ) (a : Action) (r : Held × PlainReply) → s.faulted ≡ false
    → length s.done ≡ length tracks → next_action tracks s t ≡ Some a
    → left_in tracks (settle tracks t s r) < left_in tracks s
less tracks s t a r sound same is =
    let there = at_track (slice_get tracks t) (slice_index s.done t) a is in
    let within : t < length s.done = omega (arith, same, slice_get_within tracks t there.0 there.1) in
    let some : slice_index s.done t < length there.0.actions = slice_get_within there.0.actions (slice_index s.done t) a there.2 in
    let before : weight s.faulted ≡ 1 = ap weight sound in
    by (is_fault r.1) before (ops_less tracks s.done t there.0 there.1 within some)
  where
    by : (b : Bool) → weight s.faulted ≡ 1
        → ops_left tracks (set s.done t (slice_index s.done t + 1)) + 1 ≡ ops_left tracks s.done
        → left_in tracks (cond b (record s { faulted = true }) (advance tracks t s r.0)) < left_in tracks s
    by true before fewer = omega (arith, before)
    by false before fewer = omega (arith, before, fewer)

next_less : (tracks : List PlainTrack) (s : State) (e : Entry) → length s.done ≡ length tracks → IsNext tracks s e
    → left_in tracks (event tracks s e).0 < left_in tracks s
unfolding event
next_less tracks s e same next =
    let w = waits s.held.owner e.track (next_action tracks s e.track) next.ready in
    let r = act s.held e.track (deed_of w.0) e.arena e.raw in
    let then_is : (event tracks s e).0 ≡ settle tracks e.track s r =
    ap (λ (o : Option Action). (event_of tracks s e.track e.arena e.raw o).0) w.1 in
    subst (λ (x : State). left_in tracks x < left_in tracks s) (sym then_is)
    (less tracks s e.track w.0 r next.no_fault same w.1)

pub leaves_less : (tracks : List PlainTrack) (es : List Entry) (e : Entry) → IsNext tracks (last_state tracks es) e
    → left_in tracks (last_state tracks (es ++ e ∷ [])) < left_in tracks (last_state tracks es)
leaves_less tracks es e next =
    subst (λ (x : State). left_in tracks x < left_in tracks (last_state tracks es)) (sym (state_push tracks (opening tracks) es e)) (next_less tracks (last_state tracks es) e (done_length tracks es) next)

-- ---- a history is no longer than there are operations, but for a fault

short_from : (tracks : List PlainTrack) (s : State) (es : List Entry) → length s.done ≡ length tracks
    → IsLegalFrom tracks s es → length es ≤ left_in tracks s
short_from tracks s [] same legal = omega arith
short_from tracks s (e ∷ es) same legal =
    omega (arith, next_less tracks s e same legal.0, short_from tracks (event tracks s e).0 es (event_length tracks s e ∙ same) legal.1)

all_left : (tracks : List PlainTrack) → ops_left tracks (none_done tracks) ≡ action_count tracks
all_left [] = refl
all_left (t ∷ ts) = omega (arith, all_left ts, sum_by-cons (λ (x : PlainTrack). length x.actions) t ts)

pub legal_short : (tracks : List PlainTrack) (es : List Entry) → IsLegal tracks es → length es ≤ action_count tracks + 1
legal_short tracks es legal = omega (arith, short_from tracks (opening tracks) es (map_length tracks) legal, all_left tracks)
