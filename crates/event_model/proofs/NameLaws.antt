-- What names hold after an event.
use Rattle.std.proofs.Common.{◌≡◌, ◌≢◌, ℕ, Bool, true, false, cond, List, Option, Some, None, refl, sym, ap, ◌∙◌}
use Rattle.mem_base.specs.Name.{Name}
use Rattle.mem_base.specs.declared.history.Entry.{Entry}
use Rattle.trace_model.specs.Plain.{Action, PlainTrack}
use Rattle.map_model.specs.Map.{find}
use Rattle.map_model.proofs.CallerLemmas.{find-hold_same}
use Rattle.request_model.specs.Decision.{call_fault}
use Rattle.event_model.specs.Deeds.{Deed, deed_of, calls, frees}
use Rattle.event_model.specs.Effects.{act, effect}
use Rattle.event_model.specs.Events.{event, event_of, settle, advance, next_action}
use Rattle.event_model.specs.Laws.{OtherNamesKeepTheirs, OnlyOkChangesBlocks, CallsGive, FreeTakes}
use Rattle.event_model.specs.Memory.{finding_of, sized_turn, free_unless}
use Rattle.event_model.specs.Replies.{PlainReply, ok, is_fault}
use Rattle.event_model.specs.State.{Held, State, is_owner}
use Rattle.event_model.proofs.DeedLaws.{effect_keeps_others, effect_keeps_unless_ok}
use Rattle.event_model.proofs.EventLaws.{reply_of}
use Rattle.event_model.proofs.KeepLaws.{free_held, sized_gives}

-- ---- what each name holds, unless its block is worked on or the answer is ok

settle_keeps : (tracks : List PlainTrack) (t : ℕ) (s : State) (r : Held × PlainReply) (name : Name)
    → find r.0.blocks name ≡ find s.held.blocks name
    → find (settle tracks t s r).held.blocks name ≡ find s.held.blocks name
settle_keeps tracks t s r name same = by (is_fault r.1)
  where
    by : (b : Bool) → find (cond b (record s { faulted = true }) (advance tracks t s r.0)).held.blocks name
        ≡ find s.held.blocks name
    by true = refl
    by false = same

pub others_keep_theirs : OtherNamesKeepTheirs
unfolding event
others_keep_theirs tracks s e a name is other =
    let r = act s.held e.track (deed_of a) e.arena e.raw in
    ap (λ (o : Option Action). find (event_of tracks s e.track e.arena e.raw o).0.held.blocks name) is
    ∙ settle_keeps tracks e.track s r name
    (effect_keeps_others s.held e.track (deed_of a) e.arena e.raw name other)

pub only_ok_changes : OnlyOkChangesBlocks
unfolding event
only_ok_changes tracks s e name ne = by (next_action tracks s e.track) ne
  where
    by : (o : Option Action) → (event_of tracks s e.track e.arena e.raw o).1 ≢ ok
        → find (event_of tracks s e.track e.arena e.raw o).0.held.blocks name ≡ find s.held.blocks name
    by None ne = refl
    by (Some a) ne =
        let r = act s.held e.track (deed_of a) e.arena e.raw in
        let same = effect_keeps_unless_ok s.held e.track (deed_of a) e.arena e.raw name ne in
        settle_keeps tracks e.track s r name same

-- ---- what a name holds where the answer is ok

-- an event that answers ok leaves what its operation left
ok_leaves : (tracks : List PlainTrack) (s : State) (e : Entry) (a : Action) (d : Deed) (name : Name)
    → next_action tracks s e.track ≡ Some a → deed_of a ≡ d → (event tracks s e).1 ≡ ok
    → find (event tracks s e).0.held.blocks name ≡ find (effect s.held e.track d e.arena e.raw).0.blocks name
unfolding event
ok_leaves tracks s e a d name is comes_to answer =
    let r = act s.held e.track (deed_of a) e.arena e.raw in
    let none : is_fault r.1 ≡ false = ap is_fault (sym (reply_of tracks s e a is) ∙ answer) in
    ap (λ (o : Option Action). find (event_of tracks s e.track e.arena e.raw o).0.held.blocks name) is
    ∙ ap (λ (b : Bool). find (cond b (record s { faulted = true }) (advance tracks e.track s r.0)).held.blocks name) none
    ∙ ap (λ (d : Deed). find (effect s.held e.track d e.arena e.raw).0.blocks name) comes_to

-- and its operation answered ok
ok_answers : (tracks : List PlainTrack) (s : State) (e : Entry) (a : Action) (d : Deed)
    → next_action tracks s e.track ≡ Some a → deed_of a ≡ d → (event tracks s e).1 ≡ ok
    → (effect s.held e.track d e.arena e.raw).1 ≡ ok
ok_answers tracks s e a d is comes_to answer =
    ap (λ (d : Deed). (effect s.held e.track d e.arena e.raw).1) (sym comes_to) ∙ sym (reply_of tracks s e a is) ∙ answer

pub calls_give : CallsGive
calls_give tracks s e a name call is sized answer =
    let h = s.held in
    let d = calls name call in
    let now = find h.blocks name in
    let turn = sized_turn call (is_owner h.owner e.track) e.arena e.raw h.layout now in
    let answers = ok_answers tracks s e a d is sized answer in
    let held = sized_gives call (is_owner h.owner e.track) e.arena e.raw h.layout now answers in (
      held.0,
      ok_leaves tracks s e a d name is sized answer ∙ find-hold_same h.blocks name turn.block ∙ held.1,
      held.2,
    )

pub free_takes : FreeTakes
free_takes tracks s e a v name is freed answer =
    let h = s.held in
    let d = frees v name in
    let now = find h.blocks name in
    let fault = call_fault v (is_owner h.owner e.track) (finding_of v now) in
    ok_leaves tracks s e a d name is freed answer
    ∙ find-hold_same h.blocks name (free_unless fault h.layout now).block
    ∙ free_held fault h.layout now (ok_answers tracks s e a d is freed answer)
