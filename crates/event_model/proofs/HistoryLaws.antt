-- One event more at the end of a history.
use Rattle.std.proofs.Common.{◌≡◌, List, [], ◌∷◌, ◌++◌, refl}
use Rattle.mem_base.specs.declared.history.Entry.{Entry}
use Rattle.trace_model.specs.Plain.{PlainTrack}
use Rattle.event_model.specs.Events.{event}
use Rattle.event_model.specs.History.{state_after, IsNext, IsLegalFrom}
use Rattle.event_model.specs.State.{State}

pub state_push : (tracks : List PlainTrack) (s : State) (es : List Entry) (e : Entry)
    → state_after tracks s (es ++ e ∷ []) ≡ (event tracks (state_after tracks s es) e).0
state_push tracks s [] e = refl
state_push tracks s (x ∷ es) e = state_push tracks (event tracks s x).0 es e

pub legal_push : (tracks : List PlainTrack) (s : State) (es : List Entry) (e : Entry) → IsLegalFrom tracks s es
    → IsNext tracks (state_after tracks s es) e → IsLegalFrom tracks s (es ++ e ∷ [])
legal_push tracks s [] e legal next = (next, tt)
legal_push tracks s (x ∷ es) e legal next = (legal.0, legal_push tracks (event tracks s x).0 es e legal.1 next)
