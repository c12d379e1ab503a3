-- Where no track is ready, nothing is left to do: the owner of the lock always has an operation left, and never waits.
use Rattle.std.proofs.Common.{◌≡◌, ℕ, suc, ◌+◌, ◌<◌, ◌≤◌, Bool, true, false, cond, not, ◌&&◌, List, [], ◌∷◌}
use Rattle.std.proofs.Common.{length, slice_get, set, Option, Some, None, refl, sym, ap, ◌∙◌, inl, inr, ◌⊎◌}
use Rattle.std.proofs.Common.{arith, true≢false}
use Rattle.std.specs.Prelude.{slice_index, is_some}
use Rattle.std.proofs.lemmas.Bool.Decides.{eqb_tells}
use Rattle.std.proofs.lemmas.List.{get_or-set_same, get_or-set_other}
use Rattle.std.proofs.lemmas.Option.{slice_get_cases, slice_get_within}
use Rattle.mem_base.specs.declared.history.Entry.{Entry}
use Rattle.trace_model.specs.Plain.{Action, PlainTrack}
use Rattle.event_model.specs.Deeds.{deed_of}
use Rattle.event_model.specs.Effects.{act}
use Rattle.event_model.specs.Events.{event, event_of, settle, advance, let_go, action_after, next_action}
use Rattle.event_model.specs.Events.{may_do, is_ready, ops_left}
use Rattle.event_model.specs.History.{opening, state_after, last_state, IsDone}
use Rattle.event_model.specs.Laws.{OnlyAcquireWaits, OwnersGoOn, NoneReadyIsAllDone}
use Rattle.event_model.specs.Replies.{PlainReply, is_fault}
use Rattle.event_model.specs.State.{Held, State, is_owner}
use Rattle.event_model.proofs.DeedLaws.{owner_after, owner_may_do, may_do_free, waits_for_lock}
use Rattle.event_model.proofs.LeftLaws.{at_track, event_length, map_length}

-- the owner of the lock has an operation left
abbrev GoesOn : List PlainTrack → State → Type 0
GoesOn tracks s = (t : ℕ) → s.held.owner ≡ Some t → is_some (next_action tracks s t) ≡ true

-- ---- one event

-- a track that still owns the lock owned it, and has an operation left where it is this one
let_go_keeps : (tracks : List PlainTrack) (t d u : ℕ) (owner : Option ℕ) → let_go tracks t d owner ≡ Some u
    → (owner ≡ Some u) × (u ≡ t → is_some (action_after tracks t d) ≡ true)
let_go_keeps tracks t d u owner own = by (is_owner owner t) (is_some (action_after tracks t d)) refl refl own
  where
    is_this : owner ≡ Some u → u ≡ t → is_owner owner t ≡ true
    is_this here same =
        elim (eqb_tells u t) [ inl hit ↦ ap (λ (o : Option ℕ). is_owner o t) here ∙ hit.0 | inr miss ↦ absurd (miss.1 same) ]

    by : (mine some : Bool) → is_owner owner t ≡ mine → is_some (action_after tracks t d) ≡ some → cond {A = Option ℕ} (mine && not some) None owner ≡ Some u
        → (owner ≡ Some u) × (u ≡ t → is_some (action_after tracks t d) ≡ true)
    by true true m h own = (own, λ same. h)
    by true false m h own = absurd cc
    by false some m h own = (own, λ same. absurd (true≢false (sym (is_this own same) ∙ m)))

advance_goes_on : (tracks : List PlainTrack) (t : ℕ) (s : State) (h : Held) → t < length s.done → GoesOn tracks s
    → ((u : ℕ) → h.owner ≡ Some u → (u ≡ t) ⊎ (s.held.owner ≡ Some u)) → GoesOn tracks (advance tracks t s h)
advance_goes_on tracks t s h within goes owners = λ u own.
    let d : ℕ = slice_index s.done t + 1 in
    let kept = let_go_keeps tracks t d u h.owner own in
    elim (eqb_tells u t) [
      | inl same ↦
          let at : slice_index (set s.done t d) u ≡ d = ap (slice_index (set s.done t d)) same.1 ∙ get_or-set_same s.done t d 0 within in
          (λ i. is_some (action_after tracks (same.1 i) (at i))) ∙ kept.1 same.1
      | inr away ↦
          let at : slice_index (set s.done t d) u ≡ slice_index s.done u = get_or-set_other s.done t u d 0 away.1 in
          ap (λ (n : ℕ). is_some (action_after tracks u n)) at
          ∙ elim (owners u kept.0) [ inl same ↦ absurd (away.1 same) | inr before ↦ goes u before ]
    ]

settle_goes_on : (tracks : List PlainTrack) (t : ℕ) (s : State) (r : Held × PlainReply) → t < length s.done
    → GoesOn tracks s → ((u : ℕ) → r.0.owner ≡ Some u → (u ≡ t) ⊎ (s.held.owner ≡ Some u))
    → GoesOn tracks (settle tracks t s r)
settle_goes_on tracks t s r within goes owners = by (is_fault r.1)
  where
    by : (b : Bool) → GoesOn tracks (cond b (record s { faulted = true }) (advance tracks t s r.0))
    by true = goes
    by false = advance_goes_on tracks t s r.0 within goes owners

event_goes_on : (tracks : List PlainTrack) (s : State) (e : Entry) → length s.done ≡ length tracks → GoesOn tracks s
    → GoesOn tracks (event tracks s e).0
unfolding event
event_goes_on tracks s e same goes = by (next_action tracks s e.track) refl
  where
    by : (o : Option Action) → next_action tracks s e.track ≡ o → GoesOn tracks (event_of tracks s e.track e.arena e.raw o).0
    by None is = goes
    by (Some a) is =
        let there = at_track (slice_get tracks e.track) (slice_index s.done e.track) a is in
        let within : e.track < length s.done = omega (arith, same, slice_get_within tracks e.track there.0 there.1) in
        let r = act s.held e.track (deed_of a) e.arena e.raw in
        settle_goes_on tracks e.track s r within goes (owner_after s.held e.track (deed_of a) e.arena e.raw)

-- ---- a history

after_goes_on : (tracks : List PlainTrack) (s : State) (es : List Entry) → length s.done ≡ length tracks
    → GoesOn tracks s → GoesOn tracks (state_after tracks s es)
after_goes_on tracks s [] same goes = goes
after_goes_on tracks s (e ∷ es) same goes =
    after_goes_on tracks (event tracks s e).0 es (event_length tracks s e ∙ same) (event_goes_on tracks s e same goes)

pub owners_go_on : OwnersGoOn
owners_go_on tracks es = after_goes_on tracks (opening tracks) es (map_length tracks) (λ t own. absurd cc)

-- ---- where no track is ready

pub only_acquire_waits : OnlyAcquireWaits
only_acquire_waits tracks s t a is waits = waits_for_lock s.held.owner t (deed_of a) (sym (ap (may_do s.held.owner t) is) ∙ waits)

none_or_some : (o : Option Action) → (b : Bool) → is_some o ≡ b → b ≡ true → (a : Action) × (o ≡ Some a)
none_or_some None b is some = absurd (true≢false (sym (is ∙ some)))
none_or_some (Some a) b is some = (a, refl)

no_owner : (tracks : List PlainTrack) (s : State) → GoesOn tracks s → IsDone tracks s → s.held.owner ≡ None
no_owner tracks s goes done = by s.held.owner refl
  where
    by : (o : Option ℕ) → s.held.owner ≡ o → o ≡ None
    by None is = refl
    by (Some t) is =
        let next = none_or_some (next_action tracks s t) _ refl (goes t is) in
        let ready : is_ready tracks s t ≡ true = (λ i. may_do (is i) t (next.1 i)) ∙ owner_may_do t (deed_of next.0) in
        absurd (true≢false (sym ready ∙ done t))

no_action : (tracks : List PlainTrack) (s : State) → s.held.owner ≡ None → IsDone tracks s → (t : ℕ)
    → next_action tracks s t ≡ None
no_action tracks s free done t = by (next_action tracks s t) refl
  where
    by : (o : Option Action) → next_action tracks s t ≡ o → o ≡ None
    by None is = refl
    by (Some a) is =
        let ready : is_ready tracks s t ≡ true = (λ i. may_do (free i) t (is i)) ∙ may_do_free t (deed_of a) in
        absurd (true≢false (sym ready ∙ done t))

past : (actions : List Action) (d : ℕ) → slice_get actions d ≡ None → length actions ≤ d
past actions d none = elim ((slice_get_cases actions d).1) [
  | inl within ↦ let two : Some within.0 ≡ None = sym within.2 ∙ none in absurd cc
  | inr beyond ↦ beyond.0
]

none_left : (tracks : List PlainTrack) (done : List ℕ) → ((t : ℕ) → action_after tracks t (slice_index done t) ≡ None)
    → ops_left tracks done ≡ 0
none_left [] done none = refl
none_left (track ∷ tracks) [] none = refl
none_left (track ∷ tracks) (d ∷ done) none =
    omega (arith, past track.actions d (none 0), none_left tracks done (λ t. none (suc t)))

pub all_done : NoneReadyIsAllDone
all_done tracks es done =
    let s = last_state tracks es in
    let free = no_owner tracks s (owners_go_on tracks es) done in
    (none_left tracks s.done (no_action tracks s free done), free)
