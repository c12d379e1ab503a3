-- What holds of what an operation does, by what it comes to. Only those deeds have a line of their own of which there is
-- more to say than that they change nothing here.
use Rattle.std.proofs.Common.{◌≡◌, ◌≢◌, ℕ, true≢false, Bool, true, false, cond, Option, Some, None}
use Rattle.std.proofs.Common.{refl, sym, ◌∙◌, inl, inr, ◌⊎◌}
use Rattle.std.proofs.lemmas.Bool.Decides.{eqb_tells}
use Rattle.mem_base.specs.Name.{Name}
use Rattle.mem_base.specs.declared.history.Grant.{Grant}
use Rattle.mem_base.specs.declared.history.Ask.{Ask}
use Rattle.trace_model.specs.Plain.{Action, acquire}
use Rattle.layout_model.specs.Asks.{FitsRequest}
use Rattle.layout_model.specs.Layout.{Layout}
use Rattle.map_model.specs.Map.{find}
use Rattle.map_model.proofs.CallerLemmas.{find-hold_other, find-hold_again}
use Rattle.request_model.specs.Decision.{call_fault}
use Rattle.tracing_model.specs.Traces.{of_block}
use Rattle.event_model.specs.Deeds.{Deed, deed_of, takes_lock, gives_lock, calls, frees, writes_bytes, reads_bytes}
use Rattle.event_model.specs.Deeds.{changes, marks, asks_trace, takes_snapshot, keeps_by, asks_snapshots}
use Rattle.event_model.specs.Effects.{act, block_of, effect, may_do_next, request_of, tracing_after}
use Rattle.event_model.specs.Frames.{frames_at}
use Rattle.event_model.specs.Memory.{SizedCall, fault_of, finding_of, is_busy}
use Rattle.event_model.specs.Replies.{PlainReply, ok, null, held, not_held}
use Rattle.event_model.specs.State.{Held, is_owner}
use Rattle.event_model.specs.Tracing.{trace_in}
use Rattle.event_model.proofs.KeepLaws.{sized_keeps, free_keeps, poke_keeps, peek_keeps}
use Rattle.event_model.proofs.LayoutLaws.{Placing, Unplacing, sized_holds, unless_holds, poke_holds, peek_holds}
use Rattle.event_model.proofs.NullLaws.{IsWhy, acquire_null, release_null, free_null, poke_null, peek_null, mark_null}
use Rattle.event_model.proofs.NullLaws.{trace_null, snapshot_null, keep_null, asked_null, sized_why}
use Rattle.event_model.proofs.TraceLaws.{AreIn, gives_none, all_stay, free_are, other_are, peek_sizes, poke_sizes}
use Rattle.event_model.proofs.TraceLaws.{sized_are}

module _ (h : Held) (t : ℕ) where
  -- ---- what an operation leaves: all but what is traced is by its effect, and what is traced follows its reply

  -- an effect leaves what is traced
  pub effect_keeps_tracing : (d : Deed) (arena : Grant) (raw : Ask) → (effect h t d arena raw).0.tracing ≡ h.tracing
  effect_keeps_tracing takes_lock arena raw = refl
  effect_keeps_tracing d arena raw = refl

  module _ (d : Deed) (arena : Grant) (raw : Ask) where
    -- blocks, layout, owner, frames, snapshots and reply are those of the effect
    pub act_blocks : (act h t d arena raw).0.blocks ≡ (effect h t d arena raw).0.blocks
    act_blocks = refl

    pub act_layout : (act h t d arena raw).0.layout ≡ (effect h t d arena raw).0.layout
    act_layout = refl

    pub act_owner : (act h t d arena raw).0.owner ≡ (effect h t d arena raw).0.owner
    act_owner = refl

    pub act_frames : (act h t d arena raw).0.frames ≡ (effect h t d arena raw).0.frames
    act_frames = refl

    pub act_snapshots : (act h t d arena raw).0.snapshots ≡ (effect h t d arena raw).0.snapshots
    act_snapshots = refl

    pub act_answers : (act h t d arena raw).1 ≡ (effect h t d arena raw).1
    act_answers = refl

    -- what is traced follows the reply
    pub act_traces : let r = effect h t d arena raw in
        (act h t d arena raw).0.tracing ≡ tracing_after (frames_at r.0.frames t) d r.1 r.0.tracing
    act_traces = refl

  -- ---- layouts

  -- a fact that holds of the layout, and wherever the request and a freed block lead, holds after the operation
  pub effect_holds : (P : Layout → Type 0) (d : Deed) (arena : Grant) (raw : Ask) → P h.layout
      → Placing P h.layout arena (request_of h t d) → Unplacing P → P (effect h t d arena raw).0.layout
  effect_holds P (calls name call) arena raw here placed unplaced =
      sized_holds P call (is_owner h.owner t) arena raw h.layout (find h.blocks name) here placed unplaced
  effect_holds P (frees v name) arena raw here placed unplaced =
      let now = find h.blocks name in
      unless_holds P (call_fault v (is_owner h.owner t) (finding_of v now)) h.layout now here unplaced
  effect_holds P (writes_bytes name offset new) arena raw here placed unplaced =
      poke_holds P offset new h.layout (find h.blocks name) here
  effect_holds P (reads_bytes name offset count) arena raw here placed unplaced =
      peek_holds P offset count h.layout (find h.blocks name) here
  effect_holds P d arena raw here placed unplaced = here

  -- ---- names

  differs : (name mine : Name) → Some mine ≢ Some name → name ≢ mine
  differs name mine ne = λ same. ne (λ i. Some (sym same i))

  -- an operation leaves the blocks of all names but the one that it works on
  pub effect_keeps_others : (d : Deed) (arena : Grant) (raw : Ask) (name : Name)
      → block_of d ≢ Some name → find (effect h t d arena raw).0.blocks name ≡ find h.blocks name
  effect_keeps_others (calls mine call) arena raw name ne = find-hold_other h.blocks mine name _ (differs name mine ne)
  effect_keeps_others (frees v mine) arena raw name ne = find-hold_other h.blocks mine name _ (differs name mine ne)
  effect_keeps_others (writes_bytes mine offset new) arena raw name ne =
      find-hold_other h.blocks mine name _ (differs name mine ne)
  effect_keeps_others (reads_bytes mine offset count) arena raw name ne =
      find-hold_other h.blocks mine name _ (differs name mine ne)
  effect_keeps_others d arena raw name ne = refl

  -- an operation that answers anything but ok leaves what each name holds
  pub effect_keeps_unless_ok : (d : Deed) (arena : Grant) (raw : Ask) (name : Name)
      → (effect h t d arena raw).1 ≢ ok → find (effect h t d arena raw).0.blocks name ≡ find h.blocks name
  effect_keeps_unless_ok (calls mine call) arena raw name ne =
      let kept = sized_keeps call (is_owner h.owner t) arena raw h.layout (find h.blocks mine) ne in
      find-hold_again h.blocks mine name _ kept
  effect_keeps_unless_ok (frees v mine) arena raw name ne =
      let now = find h.blocks mine in
      let found = call_fault v (is_owner h.owner t) (finding_of v now) in
      find-hold_again h.blocks mine name _ (free_keeps found h.layout now ne)
  effect_keeps_unless_ok (writes_bytes mine offset new) arena raw name ne =
      find-hold_again h.blocks mine name _ (poke_keeps offset new h.layout (find h.blocks mine) ne)
  effect_keeps_unless_ok (reads_bytes mine offset count) arena raw name ne =
      find-hold_again h.blocks mine name _ (peek_keeps offset count h.layout (find h.blocks mine))
  effect_keeps_unless_ok d arena raw name ne = refl

  -- ---- null

  -- an operation that answers null, with answers that fit what it asks for, is a call for a block that is not busy
  pub null_is_call : (d : Deed) (arena : Grant) (raw : Ask) → FitsRequest h.layout (request_of h t d) arena raw
      → (effect h t d arena raw).1 ≡ null
      → (name : Name) × (call : SizedCall) × (d ≡ calls name call) × (is_busy call (find h.blocks name) ≡ false)
      × IsWhy call (fault_of call (is_owner h.owner t) (find h.blocks name)) raw
  null_is_call takes_lock arena raw fits answer = absurd (acquire_null t h.owner answer)
  null_is_call gives_lock arena raw fits answer = absurd (release_null t h.owner answer)
  null_is_call (calls name call) arena raw fits answer =
      let why = sized_why call (is_owner h.owner t) arena raw h.layout (find h.blocks name) fits answer in
      (name, call, refl, why.0, why.1)
  null_is_call (frees v name) arena raw fits answer =
      let now = find h.blocks name in
      absurd (free_null (call_fault v (is_owner h.owner t) (finding_of v now)) h.layout now answer)
  null_is_call (writes_bytes name offset new) arena raw fits answer =
      absurd (poke_null offset new h.layout (find h.blocks name) answer)
  null_is_call (reads_bytes name offset count) arena raw fits answer =
      absurd (peek_null offset count h.layout (find h.blocks name) answer)
  null_is_call (marks change) arena raw fits answer = absurd (mark_null h.tracing answer)
  null_is_call (asks_trace name) arena raw fits answer = absurd (trace_null (trace_in h.tracing (of_block name)) answer)
  null_is_call (takes_snapshot name) arena raw fits answer =
      absurd (snapshot_null h.tracing name h.snapshots answer)
  null_is_call (keeps_by new old rules) arena raw fits answer =
      absurd (keep_null new rules (find h.snapshots old) h.snapshots answer)
  null_is_call (asks_snapshots question) arena raw fits answer = absurd (asked_null h.snapshots question answer)
  null_is_call d arena raw fits answer = absurd cc

  -- ---- the lock

  -- the owner after an operation is its track, or owned the lock before
  pub owner_after : (d : Deed) (arena : Grant) (raw : Ask) (u : ℕ)
      → (effect h t d arena raw).0.owner ≡ Some u → (u ≡ t) ⊎ (h.owner ≡ Some u)
  owner_after takes_lock arena raw u own = by (is_owner h.owner t) own
    where
      by : (b : Bool) → (cond {A = Option ℕ × PlainReply} b (h.owner, held) (Some t, ok)).0 ≡ Some u
          → (u ≡ t) ⊎ (h.owner ≡ Some u)
      by true own = inr own
      by false own = inl cc
  owner_after gives_lock arena raw u own = by (is_owner h.owner t) own
    where
      by : (b : Bool) → (cond {A = Option ℕ × PlainReply} b (None, ok) (h.owner, not_held)).0 ≡ Some u
          → (u ≡ t) ⊎ (h.owner ≡ Some u)
      by true own = absurd cc
      by false own = inr own
  owner_after d arena raw u own = inr own

-- the owner of the lock waits for nothing
pub owner_may_do : (t : ℕ) (d : Deed) → may_do_next (Some t) t d ≡ true
owner_may_do t takes_lock = elim (eqb_tells t t) [ inl hit ↦ hit.0 | inr miss ↦ absurd (miss.1 refl) ]
owner_may_do t d = refl

-- where the lock is free, no track waits
pub may_do_free : (t : ℕ) (d : Deed) → may_do_next None t d ≡ true
may_do_free t takes_lock = refl
may_do_free t d = refl

-- a track that waits, waits to take the lock
pub waits_for_lock : (owner : Option ℕ) (t : ℕ) (d : Deed) → may_do_next owner t d ≡ false
    → (d ≡ takes_lock) × (u : ℕ) × (owner ≡ Some u) × (u ≢ t)
waits_for_lock owner t takes_lock waits = by owner waits
  where
    by : (o : Option ℕ) → may_do_next o t takes_lock ≡ false → (takes_lock ≡ takes_lock) × (u : ℕ) × (o ≡ Some u) × (u ≢ t)
    by None waits = absurd (true≢false waits)
    by (Some u) waits = elim (eqb_tells u t) [
      | inl hit ↦ absurd (true≢false (sym hit.0 ∙ waits))
      | inr miss ↦ (refl, u, refl, miss.1)
    ]
waits_for_lock owner t d waits = absurd (true≢false waits)

-- ---- traces

-- what tracing is told by itself, and not by a call for a block, gives no block a trace
abbrev tells_no_block : Deed → Bool
tells_no_block (changes change) = gives_none change
tells_no_block (marks change) = gives_none change
tells_no_block d = true

-- no operation tells tracing of a block by itself
told_none : (a : Action) → tells_no_block (deed_of a) ≡ true
told_none acquire = refl
told_none a = refl

deed_are : (h : Held) (t : ℕ) (arena : Grant) (raw : Ask) → AreIn h → (d : Deed) → tells_no_block d ≡ true
    → AreIn (act h t d arena raw).0
deed_are h t arena raw are (calls name call) none = sized_are h t arena raw are name call (frames_at h.frames t)
deed_are h t arena raw are (frees v name) none =
    let found = finding_of v (find h.blocks name) in
    free_are h t arena raw are name (call_fault v (is_owner h.owner t) found) (frames_at h.frames t)
deed_are h t arena raw are (writes_bytes name offset new) none =
    other_are h t arena raw are (writes_bytes name offset new) refl are (poke_sizes h t arena raw are name offset new)
deed_are h t arena raw are (reads_bytes name offset count) none =
    other_are h t arena raw are (reads_bytes name offset count) refl are (peek_sizes h t arena raw are name offset count)
deed_are h t arena raw are (changes change) none =
    other_are h t arena raw are (changes change) none are (all_stay h t arena raw are)
deed_are h t arena raw are (marks change) none =
    other_are h t arena raw are (marks change) none are (all_stay h t arena raw are)
deed_are h t arena raw are d none = other_are h t arena raw are d refl are (all_stay h t arena raw are)

-- each trace is still of the block of its name
pub act_are : (h : Held) (t : ℕ) (a : Action) (arena : Grant) (raw : Ask) → AreIn h
    → AreIn (act h t (deed_of a) arena raw).0
act_are h t a arena raw are = deed_are h t arena raw are (deed_of a) (told_none a)
