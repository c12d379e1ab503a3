-- A fault changes nothing but that it has come, and is the last event of a history.
use Rattle.std.proofs.Common.{◌≡◌, ℕ, Bool, true, false, cond, List, [], ◌∷◌, ◌++◌, Option, Some, None, refl}
use Rattle.std.proofs.Common.{sym, ap, ◌∙◌, true≢false}
use Rattle.mem_base.specs.declared.history.Entry.{Entry}
use Rattle.trace_model.specs.Plain.{Action, PlainTrack}
use Rattle.event_model.specs.Deeds.{deed_of}
use Rattle.event_model.specs.Effects.{act}
use Rattle.event_model.specs.Events.{event, event_of, next_action, advance}
use Rattle.event_model.specs.History.{opening, state_after, IsLegalFrom, IsLegal, EndsInFault}
use Rattle.event_model.specs.Replies.{PlainReply, is_fault}
use Rattle.event_model.specs.State.{Held, State}

-- from a state in which no fault has come, the events end in one
record EndsFrom (tracks : List PlainTrack) (s : State) (es : List Entry) : Type 0 where
  pub earlier : List Entry
  pub last : Entry
  pub all : es ≡ earlier ++ last ∷ []
  pub sound : (state_after tracks s earlier).faulted ≡ false
  pub fault : is_fault (event tracks (state_after tracks s earlier) last).1 ≡ true

-- what a state settles to, by whether the reply is a fault
abbrev settled_by : List PlainTrack → ℕ → State → Held × PlainReply → Bool → State
settled_by tracks t s r b = cond b (record s { faulted = true }) (advance tracks t s r.0)

-- a fault leaves the state, but that it has come
pub fault_keeps : (tracks : List PlainTrack) (s : State) (e : Entry) → is_fault (event tracks s e).1 ≡ true → (event tracks s e).0 ≡ record s { faulted = true }
unfolding event
fault_keeps tracks s e is = by (next_action tracks s e.track) is
  where
    by : (o : Option Action) → is_fault (event_of tracks s e.track e.arena e.raw o).1 ≡ true → (event_of tracks s e.track e.arena e.raw o).0 ≡ record s { faulted = true }
    by None is = absurd (true≢false (sym is))
    by (Some a) is = ap (settled_by tracks e.track s (act s.held e.track (deed_of a) e.arena e.raw)) is

-- no other reply says that a fault has come
pub others_keep : (tracks : List PlainTrack) (s : State) (e : Entry) → is_fault (event tracks s e).1 ≡ false
    → (event tracks s e).0.faulted ≡ s.faulted
unfolding event
others_keep tracks s e is = by (next_action tracks s e.track) is
  where
    by : (o : Option Action) → is_fault (event_of tracks s e.track e.arena e.raw o).1 ≡ false
        → (event_of tracks s e.track e.arena e.raw o).0.faulted ≡ s.faulted
    by None is = refl
    by (Some a) is = ap (λ (b : Bool). (settled_by tracks e.track s (act s.held e.track (deed_of a) e.arena e.raw) b).faulted) is

-- an event after which a fault has come is one, if none had come before
fell_now : (tracks : List PlainTrack) (s : State) (e : Entry) → s.faulted ≡ false
    → (event tracks s e).0.faulted ≡ true → is_fault (event tracks s e).1 ≡ true
fell_now tracks s e sound fell = by (is_fault (event tracks s e).1) refl
  where
    by : (b : Bool) → is_fault (event tracks s e).1 ≡ b → b ≡ true
    by true is = refl
    by false is = absurd (true≢false (sym fell ∙ others_keep tracks s e is ∙ sound))

ends_from : (tracks : List PlainTrack) (s : State) (es : List Entry) → s.faulted ≡ false → IsLegalFrom tracks s es
    → (state_after tracks s es).faulted ≡ true → EndsFrom tracks s es
ends_from tracks s [] sound legal fell = absurd (true≢false (sym fell ∙ sound))
ends_from tracks s (e ∷ []) sound legal fell =
    record { earlier = []; last = e; all = refl; sound = sound; fault = fell_now tracks s e sound fell }
ends_from tracks s (e ∷ x ∷ es) sound legal fell =
    let rest = ends_from tracks (event tracks s e).0 (x ∷ es) legal.1.0.no_fault legal.1 fell in
    record { earlier = e ∷ rest.earlier; last = rest.last; all = ap (λ (l : List Entry). e ∷ l) rest.all; sound = rest.sound; fault = rest.fault }

pub ends_in_fault : (tracks : List PlainTrack) (es : List Entry) → IsLegal tracks es
    → (state_after tracks (opening tracks) es).faulted ≡ true → EndsInFault tracks es
ends_in_fault tracks es legal fell =
    let f = ends_from tracks (opening tracks) es refl legal fell in
    record { earlier = f.earlier; last = f.last; all = f.all; sound = f.sound; fault = f.fault }
