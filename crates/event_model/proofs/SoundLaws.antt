-- What holds along a history: the layout is sound, and each trace of a block is that of its block.
use Rattle.std.proofs.Common.{List, [], ◌∷◌, subst}
use Rattle.mem_base.specs.declared.history.Entry.{Entry}
use Rattle.trace_model.specs.Plain.{PlainTrack}
use Rattle.layout_model.specs.Asks.{Request, FitsRequest}
use Rattle.layout_model.specs.Asks.Request.{FromPools}
use Rattle.layout_model.specs.Sizes.{class_of}
use Rattle.layout_model.specs.Sound.{IsSound}
use Rattle.layout_model.proofs.CallerLemmas.{classes_are_least, empty_layout_is_sound, place_keeps}
use Rattle.layout_model.proofs.CallerLemmas.{requests_fit_their_class, unplace_keeps}
use Rattle.event_model.specs.Events.{event}
use Rattle.event_model.specs.History.{opening, state_after, IsNext, IsLegalFrom}
use Rattle.event_model.specs.Laws.{LegalIsSound, TracesAreOfBlocks}
use Rattle.event_model.specs.State.{State}
use Rattle.event_model.proofs.DeedLaws.{act_are}
use Rattle.event_model.proofs.EventLaws.{StaysTrue, after_stays, event_holds}
use Rattle.event_model.proofs.NullLaws.{small_is}
use Rattle.event_model.proofs.TraceLaws.{AreIn}

-- ---- layouts

event_sound : (tracks : List PlainTrack) (s : State) (e : Entry) → IsNext tracks s e → IsSound s.held.layout
    → IsSound (event tracks s e).0.held.layout
event_sound tracks s e next sound =
    event_holds IsSound tracks s e sound
    (λ m is small.
    let within = small_is m small in
    let fits : FitsRequest s.held.layout (FromPools m) e.arena e.raw = subst (λ (r : Request). FitsRequest s.held.layout r e.arena e.raw) is next.fits in
    place_keeps s.held.layout (class_of m) e.arena (classes_are_least m within.0 within.1).0 (requests_fit_their_class s.held.layout m e.arena e.raw within.0 within.1 fits) sound)
    (λ l k here. unplace_keeps l k here)

after_sound : (tracks : List PlainTrack) (s : State) (es : List Entry) → IsLegalFrom tracks s es
    → IsSound s.held.layout → IsSound (state_after tracks s es).held.layout
after_sound tracks s [] legal sound = sound
after_sound tracks s (e ∷ es) legal sound =
    after_sound tracks (event tracks s e).0 es legal.1 (event_sound tracks s e legal.0 sound)

pub legal_sound : LegalIsSound
legal_sound tracks es legal = after_sound tracks (opening tracks) es legal empty_layout_is_sound

-- ---- traces

traces_stay : (tracks : List PlainTrack) → StaysTrue tracks AreIn
traces_stay tracks = record {
  by_owner = λ h owner are. are;
  by_act = λ s t a arena raw is are. act_are s.held t a arena raw are;
}

pub traces_of_blocks : TracesAreOfBlocks
traces_of_blocks tracks es name trace legal is =
    after_stays tracks AreIn (traces_stay tracks) (opening tracks) es (λ name t is. absurd cc) name trace is
