-- What holds of an event, by what holds of its operation.
use Rattle.std.proofs.Common.{◌≡◌, ℕ, Bool, true, false, cond, List, [], ◌∷◌, Option, Some, None, refl, sym, ap}
use Rattle.std.proofs.Common.{subst, ◌∙◌}
use Rattle.mem_base.specs.declared.history.Grant.{Grant}
use Rattle.mem_base.specs.declared.history.Ask.{Ask}
use Rattle.mem_base.specs.declared.history.Entry.{Entry}
use Rattle.trace_model.specs.Plain.{Action, PlainTrack}
use Rattle.layout_model.specs.Asks.{FitsRequest}
use Rattle.layout_model.specs.Asks.Request.{FromPools}
use Rattle.layout_model.specs.Layout.{Layout}
use Rattle.layout_model.specs.Place.{place}
use Rattle.layout_model.specs.Sizes.{is_small, class_of}
use Rattle.map_model.specs.Map.{find}
use Rattle.event_model.specs.Deeds.{Deed, deed_of}
use Rattle.event_model.specs.Effects.{act, effect, request_of}
use Rattle.event_model.specs.Events.{event, event_of, settle, advance, next_action, next_request}
use Rattle.event_model.specs.History.{IsNext, state_after}
use Rattle.event_model.specs.Laws.{IsNull}
use Rattle.event_model.specs.Replies.{PlainReply, null, is_fault}
use Rattle.event_model.specs.State.{Held, State, is_owner}
use Rattle.event_model.proofs.DeedLaws.{effect_holds, null_is_call}
use Rattle.event_model.proofs.LayoutLaws.{Unplacing}
use Rattle.event_model.proofs.LeftLaws.{waits}
use Rattle.event_model.proofs.NullLaws.{sized_null}

-- ---- layouts

settle_holds : (P : Layout → Type 0) (tracks : List PlainTrack) (t : ℕ) (s : State) (r : Held × PlainReply)
    → P s.held.layout → P r.0.layout → P (settle tracks t s r).held.layout
settle_holds P tracks t s r here there = by (is_fault r.1)
  where
    by : (b : Bool) → P (cond b (record s { faulted = true }) (advance tracks t s r.0)).held.layout
    by true = here
    by false = there

-- a fact that holds of the layout, and wherever the event's request and a freed block lead, holds after the event
pub event_holds : (P : Layout → Type 0) (tracks : List PlainTrack) (s : State) (e : Entry)
    → P s.held.layout
    → ((m : ℕ) → next_request s.held e.track (next_action tracks s e.track) ≡ FromPools m → is_small m ≡ true
    → P (place s.held.layout (class_of m) e.arena).layout)
    → Unplacing P
    → P (event tracks s e).0.held.layout
unfolding event
event_holds P tracks s e here placed unplaced = by (next_action tracks s e.track) placed
  where
    by : (o : Option Action)
        → ((m : ℕ) → next_request s.held e.track o ≡ FromPools m → is_small m ≡ true
        → P (place s.held.layout (class_of m) e.arena).layout)
        → P (event_of tracks s e.track e.arena e.raw o).0.held.layout
    by None placed = here
    by (Some a) placed =
        let r = act s.held e.track (deed_of a) e.arena e.raw in
        let after = effect_holds s.held e.track P (deed_of a) e.arena e.raw here placed unplaced in
        settle_holds P tracks e.track s r here after

-- ---- what holds along a history

-- A fact of all that is held, whoever owns the lock, that each operation of the tracks keeps.
pub record StaysTrue (tracks : List PlainTrack) (P : Held → Type 0) : Type 0 where
  pub by_owner : (h : Held) (owner : Option ℕ) → P h → P (record h { owner = owner })
  pub by_act : (s : State) (t : ℕ) (a : Action) (arena : Grant) (raw : Ask) → next_action tracks s t ≡ Some a
      → P s.held → P (act s.held t (deed_of a) arena raw).0

module _ (tracks : List PlainTrack) (P : Held → Type 0) (stays : StaysTrue tracks P) where
  settle_stays : (t : ℕ) (s : State) (r : Held × PlainReply) → P s.held → P r.0 → P (settle tracks t s r).held
  settle_stays t s r here there = by (is_fault r.1)
    where
      by : (b : Bool) → P (cond b (record s { faulted = true }) (advance tracks t s r.0)).held
      by true = here
      by false = stays.by_owner r.0 _ there

  event_stays : (s : State) (e : Entry) → P s.held → P (event tracks s e).0.held
  unfolding event
  event_stays s e here = by (next_action tracks s e.track) refl
    where
      by : (o : Option Action) → next_action tracks s e.track ≡ o
          → P (event_of tracks s e.track e.arena e.raw o).0.held
      by None is = here
      by (Some a) is =
          let r = act s.held e.track (deed_of a) e.arena e.raw in
          settle_stays e.track s r here (stays.by_act s e.track a e.arena e.raw is here)

  pub after_stays : (s : State) (es : List Entry) → P s.held → P (state_after tracks s es).held
  after_stays s [] here = here
  after_stays s (e ∷ es) here = after_stays (event tracks s e).0 es (event_stays s e here)

-- ---- the reply of an event is that of its operation

pub reply_of : (tracks : List PlainTrack) (s : State) (e : Entry) (a : Action) → next_action tracks s e.track ≡ Some a
    → (event tracks s e).1 ≡ (effect s.held e.track (deed_of a) e.arena e.raw).1
unfolding event
reply_of tracks s e a is = ap (λ (o : Option Action). (event_of tracks s e.track e.arena e.raw o).1) is

-- ---- an event that answers null

-- the answers of an event that may come next fit what its operation asks for
fits_action : (tracks : List PlainTrack) (s : State) (e : Entry) (a : Action) → IsNext tracks s e
    → next_action tracks s e.track ≡ Some a
    → FitsRequest s.held.layout (request_of s.held e.track (deed_of a)) e.arena e.raw
fits_action tracks s e a next is =
    let fits = λ (o : Option Action). FitsRequest s.held.layout (next_request s.held e.track o) e.arena e.raw in
    subst fits is next.fits

pub null_for : (tracks : List PlainTrack) (s : State) (e : Entry)
    → IsNext tracks s e → (event tracks s e).1 ≡ null → IsNull tracks s e
null_for tracks s e next answer =
    let w = waits s.held.owner e.track (next_action tracks s e.track) next.ready in
    let fits = fits_action tracks s e w.0 next w.1 in
    let c = null_is_call s.held e.track (deed_of w.0) e.arena e.raw fits (sym (reply_of tracks s e w.0 w.1) ∙ answer) in
    record { action = w.0; next = w.1; name = c.0; call = c.1; sized = c.2; null = record { idle = c.3; why = c.4 } }

pub null_where : (tracks : List PlainTrack) (s : State) (e : Entry)
    → IsNext tracks s e → IsNull tracks s e → (event tracks s e).1 ≡ null
null_where tracks s e next is =
    let h = s.held in
    let fits = λ (d : Deed). FitsRequest h.layout (request_of h e.track d) e.arena e.raw in
    let fit = subst fits is.sized (fits_action tracks s e is.action next is.next) in
    reply_of tracks s e is.action is.next
    ∙ ap (λ (d : Deed). (effect h e.track d e.arena e.raw).1) is.sized
    ∙ sized_null is.call (is_owner h.owner e.track) e.arena e.raw h.layout (find h.blocks is.name) fit is.null.idle is.null.why
