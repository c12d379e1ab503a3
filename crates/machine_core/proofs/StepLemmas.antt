-- One event more: the state, and that the history stays legal.
use Rattle.std.proofs.Common.{◌≡◌, ℕ, zero, suc, ◌+◌, ◌-◌, ◌^◌, ◌<◌, ◌≤◌, Bool, true, false, cond, List, [], ◌∷◌}
use Rattle.std.proofs.Common.{◌++◌, length, get_or, slice_get, set, map, take, Option, Some, None, refl, sym, ap}
use Rattle.std.proofs.Common.{subst, ◌∙◌, arith, length-append, replicate}
use Rattle.std.specs.Prelude.{slice_index, IfSome, IfNone, sum_by}
use Rattle.std.specs.Option.{option_map, option_and_then}
use Rattle.std.proofs.lemmas.Option.{slice_get_within, slice_get-map, slice_get-get_or, slice_get_past}
use Rattle.std.proofs.lemmas.List.{length-map, length-replicate, take_at}
use Rattle.std.proofs.lemmas.List.Sums.{sum_by-cons}
use Rattle.mem_base.specs.Name.{Name}
use Rattle.mem_base.specs.Texts.{IsTable}
use Rattle.mem_base.specs.declared.history.Entry.{Entry}
use Rattle.mem_base.specs.declared.reply.Frame.{Frame}
use Rattle.mem_base.specs.declared.reply.Reply.{Reply}
use Rattle.mem_base.specs.declared.trace.Op.{Op}
use Rattle.mem_base.specs.declared.trace.Side.{Side}
use Rattle.mem_base.specs.declared.trace.Trace.{Trace}
use Rattle.mem_base.specs.declared.trace.Track.{Track}
use Rattle.frame_model.specs.Frames.{PlainFrame}
use Rattle.trace_model.specs.Known.{op_at, op_count, IsKnownTrace}
use Rattle.trace_model.specs.Plain.{Action, PlainTrack, track_of, tracks_of, action_of, plain}
use Rattle.trace_model.specs.Spelling.{action_count}
use Rattle.layout_model.specs.Asks.{FitsRequest}
use Rattle.layout_model.specs.Layout.{Layout}
use Rattle.request_model.specs.Counts.{asks_in, refusals_in}
use Rattle.event_model.specs.Blocks.{Block}
use Rattle.event_model.specs.Effects.{act}
use Rattle.event_model.specs.Events.{event, event_of, settle, advance, let_go, action_after, next_action}
use Rattle.event_model.specs.Events.{next_request, may_do, is_ready}
use Rattle.event_model.specs.History.{opening, last_state, IsNext}
use Rattle.event_model.specs.Plans.{GrowsBy, lists}
use Rattle.event_model.specs.Replies.{PlainReply, frames_of, is_fault, plain_reply}
use Rattle.event_model.specs.State.{Held, State}
use Rattle.event_model.proofs.CallerLemmas.{few_taken as few_taken_in, legal_push, legal_short, state_push}
use Rattle.extents.specs.Extent.{Extent}
use Rattle.sources.specs.Source.{SourceView}
use Rattle.sources.specs.Holder.{Answered}
use Rattle.block_store.specs.Store.{StoreView, empty_store}
use Rattle.frame_stack.specs.Callers.{CallersView}
use Rattle.trace_table.specs.Tracing.{IsIdle, TracingView}
use Rattle.trace_table.specs.declared.key.TraceKey.TheVariants as keys
use Rattle.machine_core.specs.Acts.{ActsAmong, Asks, Done, IsSound}
use Rattle.machine_core.specs.Deeds.{deed_for}
use Rattle.snap_store.specs.Stand.{SnapshotsStand, SnapshotsView}
use Rattle.snap_store.proofs.CallerLemmas.{none_stand}
use Rattle.machine_core.specs.Held.{IsAsItWas, StandsFor}
use Rattle.machine_core.specs.Progress.{IsProgress}
use Rattle.machine_core.specs.Ready.{is_ready_now}
use Rattle.machine_core.specs.Stands.{Stands}
use Rattle.machine_core.specs.View.{Requests}
use Rattle.machine_core.specs.declared.held.Held.{Held as Holding}
use Rattle.machine_core.specs.declared.progress.Progress.{Progress}
use Rattle.machine_core.proofs.CallerLemmas.{action_is}
use Rattle.machine_core.proofs.FollowLemmas.{as_it_was_stands}
use Rattle.machine_core.proofs.TraceLemmas.{idle_stand}

some_of : {A B : Type 0} (f : A → Option B) (o : Option A) (b : B) → option_and_then f o ≡ Some b → (a : A) × (o ≡ Some a)
some_of f None b e = absurd cc
some_of f (Some a) b e = (a, refl)

abbrev tracks : Trace → List PlainTrack
tracks trace = (plain trace).tracks

-- ---- what a settled event leaves

module _ (texts : List Name) (ts : List PlainTrack) (t : ℕ) (s : State) (r : Held × PlainReply) (done : List ℕ)
    (done_is : done ≡ s.done) (sound : s.faulted ≡ false) where
  abbrev next_done : List ℕ
  next_done = set done t (slice_index done t + 1)

  -- after a fault, and after another reply
  abbrev settled : Bool → State
  settled b = cond b (record s { faulted = true }) (advance ts t s r.0)

  settled_held : (b : Bool) (new : Holding) (owner : Option ℕ) → StandsFor texts new (cond b s.held r.0)
      → owner ≡ cond b new.owner (let_go ts t (slice_index done t + 1) new.owner)
      → StandsFor texts (record new { owner = owner }) (settled b).held
  settled_held true new owner stands owned = record {
    blocks = stands.blocks;
    layout = stands.layout;
    owner = owned ∙ stands.owner;
    files = stands.files;
    frames = stands.frames;
    traces = stands.traces;
    ranks = stands.ranks;
    snapshots = stands.snapshots;
  }
  settled_held false new owner stands owned = record {
    blocks = stands.blocks;
    layout = stands.layout;
    owner = owned ∙ (λ i. let_go ts t (slice_index (done_is i) t + 1) (stands.owner i));
    files = stands.files;
    frames = stands.frames;
    traces = stands.traces;
    ranks = stands.ranks;
    snapshots = stands.snapshots;
  }

  settled_done : (b : Bool) → cond b done next_done ≡ (settled b).done
  settled_done true = done_is
  settled_done false = λ i. set (done_is i) t (slice_index (done_is i) t + 1)

  settled_fault : (b : Bool) → b ≡ (settled b).faulted
  settled_fault true = refl
  settled_fault false = sym sound

-- what is known before an event: the operation that comes next
module _ (trace : Trace) (es : List Entry) (old : Holding) (progress : Progress) (faulted : Bool) (t at : ℕ) (op : Op)
    (stands : Stands trace es old progress faulted) (here : at ≡ get_or progress.done.items t at)
    (is_op : op_at trace.tracks t at ≡ Some op) where
  abbrev now : State
  now = last_state (tracks trace) es

  abbrev done : List ℕ
  done = progress.done.items

  pub within : t < length done
  within =
      let there = some_of (λ (track : Track). slice_get track.ops at) (slice_get trace.tracks t) op is_op in
      omega (arith, slice_get_within trace.tracks t there.0 there.1, stands.progress_is.tracks)

  -- its frames are among those of the tracks
  pub within_stacks : t < length old.callers.frames
  within_stacks = omega (arith, within, stands.progress_is.tracks, stands.stacks)

  pub here_is : at ≡ slice_index done t
  here_is =
      let e : Some (get_or done t at) ≡ Some (get_or done t 0) =
      sym (slice_get-get_or done t at within) ∙ slice_get-get_or done t 0 within in
      let same : get_or done t at ≡ get_or done t 0 = cc in
      here ∙ same

  index_is : at ≡ slice_index now.done t
  index_is = here_is ∙ ap (λ (d : List ℕ). slice_index d t) stands.done_is

  pub next_is : next_action (tracks trace) now t ≡ Some (action_of trace.texts op)
  next_is = ap (action_after (tracks trace) t) (sym index_is) ∙ action_is trace.texts trace.tracks t at
      ∙ ap (option_map (action_of trace.texts)) is_op

  -- what a source was asked, by the entry
  pub requests_are : {S : Type 0} (side : Side) (e : Entry) (asks refusals : ℕ) (held held_then : List Extent)
      (before after : SourceView S) → e.track ≡ t → asks ≡ asks_in side e → refusals ≡ refusals_in side e
      → Asks op side asks refusals held held_then before after → Requests side trace es e held held_then before after
  requests_are {S} side e asks refusals held held_then before after its_track its_asks its_refusals asked = record {
    answered = subst (λ (n : ℕ). Answered n (refusals_in side e) before after) its_asks
        (subst (λ (n : ℕ). Answered asks n before after) its_refusals asked.answered);
    plan = subst (λ (u : ℕ). GrowsBy (lists side before.asked (next_action (tracks trace) now u)) before.plan
        after.plan) (sym its_track)
        (subst (λ (a : Option Action). GrowsBy (lists side before.asked a) before.plan after.plan) (sym next_is)
        (asked.plan trace.texts));
    traded = asked.traded;
  }

  -- what the operation did, and the entry that is kept of it
  module _ (e : Entry) (its_track : e.track ≡ t) (new : Holding) (reply : Reply)
      (acts : ActsAmong trace.texts t op old new (record { arena = e.arena; raw = e.raw }) reply) where
    abbrev turn : Held × PlainReply
    turn = act now.held t (deed_for trace.texts op) e.arena e.raw

    abbrev did : Done trace.texts now.held t op (record { arena = e.arena; raw = e.raw }) new reply
    did = acts now.held stands.table stands.held

    pub event_is : event (tracks trace) now e ≡ (settle (tracks trace) t now turn, turn.1)
    unfolding event
    event_is =
        ap (λ (u : ℕ). event_of (tracks trace) now u e.arena e.raw (next_action (tracks trace) now u)) its_track
        ∙ ap (event_of (tracks trace) now t e.arena e.raw) next_is

    pub reply_is : plain_reply trace.texts reply ≡ (event (tracks trace) now e).1
    reply_is = did.answer ∙ sym (ap (λ (r : State × PlainReply). r.1) event_is)

    module _ (its_index : e.at ≡ at) (ready : is_ready (tracks trace) now t ≡ true) (sound : faulted ≡ false) where
      no_fault : now.faulted ≡ false
      no_fault = sym stands.fault_is ∙ sound

      pub is_next : IsNext (tracks trace) now e
      is_next = record {
        no_fault = no_fault;
        ready = ap (is_ready (tracks trace) now) its_track ∙ ready;
        at = its_index ∙ index_is ∙ ap (slice_index now.done) (sym its_track);
        fits = subst (λ (u : ℕ). FitsRequest now.held.layout
            (next_request now.held u (next_action (tracks trace) now u)) e.arena e.raw) (sym its_track)
            (subst (λ (a : Option Action). FitsRequest now.held.layout (next_request now.held t a) e.arena e.raw)
            (sym next_is) did.fits);
      }

      then_is : last_state (tracks trace) (es ++ e ∷ []) ≡ settle (tracks trace) t now turn
      then_is = state_push (tracks trace) (opening (tracks trace)) es e ∙ ap (λ (r : State × PlainReply). r.0) event_is

      module _ (fault : Bool) (fell : (texts : List Name) → fault ≡ is_fault (plain_reply texts reply))
          (owner' : Option ℕ) (owned : owner' ≡ cond fault new.owner (let_go (tracks trace) t (slice_index done t + 1) new.owner))
          (stacked : length new.callers.frames ≡ length old.callers.frames) (progress' : Progress)
          (did_one : progress'.done.items ≡ cond fault done (set done t (slice_index done t + 1)))
          (is : IsProgress trace progress') where
        its_fault : fault ≡ is_fault turn.1
        its_fault = fell trace.texts ∙ ap is_fault did.answer

        -- the state then, by whether a fault came
        after_is : last_state (tracks trace) (es ++ e ∷ []) ≡ settled trace.texts (tracks trace) t now turn done
            stands.done_is no_fault fault
        after_is = then_is ∙ ap (settled trace.texts (tracks trace) t now turn done stands.done_is no_fault) (sym its_fault)

        pub stands_then : Stands trace (es ++ e ∷ []) (record new { owner = owner' }) progress' fault
        stands_then = record {
          legal = legal_push (tracks trace) (opening (tracks trace)) es e stands.legal is_next;
          table = stands.table;
          known = stands.known;
          progress_is = is;
          held = subst (λ (s : State). StandsFor trace.texts (record new { owner = owner' }) s.held) (sym after_is)
              (settled_held trace.texts (tracks trace) t now turn done stands.done_is no_fault fault new owner'
              (subst (λ (b : Bool). StandsFor trace.texts new (cond b now.held turn.0)) (sym its_fault) did.held) owned);
          stacks = stacked ∙ stands.stacks;
          done_is = did_one ∙ settled_done trace.texts (tracks trace) t now turn done stands.done_is no_fault fault
              ∙ ap (λ (s : State). s.done) (sym after_is);
          fault_is = settled_fault trace.texts (tracks trace) t now turn done stands.done_is no_fault fault
              ∙ ap (λ (s : State). s.faulted) (sym after_is);
        }

-- ---- a machine at the start

abbrev none_held : Option Block
none_held = None

none_at : (n i : ℕ) → i < n → slice_get (replicate n none_held) i ≡ Some none_held
none_at zero i lt = absurd (omega arith)
none_at (suc n) zero lt = refl
none_at (suc n) (suc i) lt = none_at n i (omega arith)

zeros_are : (texts : List Name) (ts : List Track)
    → replicate {A = ℕ} (length ts) 0 ≡ map (λ (t : PlainTrack). 0) (tracks_of texts ts)
zeros_are texts [] = refl
zeros_are texts (t ∷ ts) = ap (λ (l : List ℕ). 0 ∷ l) (zeros_are texts ts)

no_sum : (f : Option Block → ℕ) → f None ≡ 0 → (n : ℕ) → sum_by f (replicate n none_held) ≡ 0
no_sum f none zero = refl
no_sum f none (suc n) = omega (arith, none, no_sum f none n, sum_by-cons f none_held (replicate n none_held))

no_frames : (texts : List Name) (ts : List Track)
    → map {A = PlainTrack} (λ t. []) (tracks_of texts ts) ≡ map (frames_of texts) (replicate (length ts) [])
no_frames texts [] = refl
no_frames texts (t ∷ ts) = ap (λ (l : List (List PlainFrame)). [] ∷ l) (no_frames texts ts)

-- no frames, and no tracebacks
abbrev pub opening_callers : Trace → CallersView
opening_callers trace = record { files = length trace.texts; frames = replicate (length trace.tracks) []; table = [] }

-- a machine's fields while no track owns the lock and the names have no ranks
abbrev at_first : StoreView → CallersView → TracingView → SnapshotsView → Holding
at_first s c tracing kept =
    record { store = s; owner = None; callers = c; tracing = tracing; ranks = None; snapshots = kept }

-- nothing is held, and nothing was done
pub opening_stands : (trace : Trace) (es : List Entry) (s : StoreView) (c : CallersView) (tracing : TracingView)
    (kept : SnapshotsView) (progress : Progress) → IsTable trace.texts → IsKnownTrace trace → es ≡ []
    → s ≡ empty_store (length trace.texts) → c ≡ opening_callers trace → IsIdle tracing
    → progress.done.items ≡ replicate {A = ℕ} (length trace.tracks) 0 → IsProgress trace progress
    → kept ≡ []
    → Stands trace es (at_first s c tracing kept) progress false
opening_stands trace es s c tracing kept progress table known empty opened called idle zeros is none =
    subst (λ (x : List Entry). Stands trace x (at_first s c tracing kept)
    progress false) (sym empty)
    (subst (λ (v : StoreView). Stands trace [] (at_first v c tracing kept)
    progress false) (sym opened)
    (subst (λ (v : CallersView). Stands trace []
    (at_first (empty_store (length trace.texts)) v tracing kept) progress
    false) (sym called) (record {
      legal = tt;
      table = table;
      known = known;
      progress_is = is;
      held = record {
        blocks = record {
          size = length-replicate (length trace.texts) none_held;
          each = λ i name is. none_at (length trace.texts) i (slice_get_within trace.texts i name is);
          distinct = tt;
          sums = λ f none. sym (no_sum f none (length trace.texts));
        };
        layout = refl;
        owner = refl;
        files = refl;
        frames = no_frames trace.texts trace.tracks;
        traces = idle_stand trace.texts [] [] tracing idle;
        ranks = tt;
        snapshots = subst (λ (v : SnapshotsView). SnapshotsStand trace.texts [] v []) (sym none) (none_stand trace.texts []);
      };
      stacks = length-replicate {A = List Frame} (length trace.tracks) [];
      done_is = zeros ∙ zeros_are trace.texts trace.tracks;
      fault_is = refl;
    })))

-- ---- all as it was

-- what an operation needs of what is held
pub sound_is : (trace : Trace) (es : List Entry) (now : Holding) (progress : Progress) (faulted : Bool)
    → Stands trace es now progress faulted → IsSound trace.texts now
sound_is trace es now progress faulted stands = record {
  blocks = stands.held.blocks.size;
  files = stands.held.files ∙ sym stands.held.blocks.size;
  numbered = λ name lt. (stands.held.traces.each (keys.Block name) (omega (arith, lt, stands.held.blocks.size))).numbered;
  known = stands.held.traces.known;
  stored = stands.held.snapshots.stored;
  ranks = stands.held.ranks;
}

-- memory ran out, and all is as it was
pub stands_still : (trace : Trace) (es : List Entry) (old new : Holding) (progress : Progress) (faulted : Bool)
    → IsAsItWas old new → Stands trace es old progress faulted → Stands trace es new progress faulted
stands_still trace es old new progress faulted same stands = record {
  legal = stands.legal;
  table = stands.table;
  known = stands.known;
  progress_is = stands.progress_is;
  held = as_it_was_stands trace.texts old new (last_state (tracks trace) es).held same stands.held;
  stacks = ap (λ (c : CallersView). length c.frames) same.callers ∙ stands.stacks;
  done_is = stands.done_is;
  fault_is = stands.fault_is;
}

-- ---- who is ready

-- there is no track past the last
pub none_past : (trace : Trace) (owner : Option ℕ) (t at : ℕ) → length trace.tracks ≤ t
    → may_do owner t (action_after (tracks trace) t at) ≡ false
none_past trace owner t at past =
    ap (λ (o : Option PlainTrack). may_do owner t (option_and_then (λ track. slice_get track.actions at) o))
    (slice_get-map (track_of trace.texts) trace.tracks t
    ∙ ap (option_map (track_of trace.texts)) (slice_get_past trace.tracks t past))

-- the fields tell who is ready
pub ready_is : (trace : Trace) (es : List Entry) (now : Holding) (progress : Progress) (faulted : Bool)
    → Stands trace es now progress faulted → (t : ℕ)
    → is_ready_now trace now.owner progress.done.items t ≡ is_ready (tracks trace) (last_state (tracks trace) es) t
ready_is trace es old progress faulted stands t =
    λ i. may_do (stands.held.owner i) t (action_after (tracks trace) t (slice_index (stands.done_is i) t))

-- a track whose next operation is none is not ready
pub not_ready : (trace : Trace) (es : List Entry) (now : Holding) (progress : Progress) (faulted : Bool) (t at : ℕ)
    → Stands trace es now progress faulted → at ≡ get_or progress.done.items t at → op_at trace.tracks t at ≡ None
    → is_ready (tracks trace) (last_state (tracks trace) es) t ≡ false
not_ready trace es now progress faulted t at stands here none = by (slice_get trace.tracks t) refl
  where
    s : State
    s = last_state (tracks trace) es

    none_at_all : (d : ℕ) → op_at trace.tracks t d ≡ None → may_do s.held.owner t (action_after (tracks trace) t d) ≡ false
    none_at_all d is = ap (may_do s.held.owner t)
        (action_is trace.texts trace.tracks t d ∙ ap (option_map (action_of trace.texts)) is)

    by : (o : Option Track) → slice_get trace.tracks t ≡ o → is_ready (tracks trace) s t ≡ false
    by None is =
        none_at_all (slice_index s.done t)
        (ap (option_and_then (λ (track : Track). slice_get track.ops (slice_index s.done t))) is)
    by (Some track) is =
        let lt : t < length progress.done.items =
        omega (arith, slice_get_within trace.tracks t track is, stands.progress_is.tracks) in
        let e : Some (get_or progress.done.items t at) ≡ Some (get_or progress.done.items t 0) =
        sym (slice_get-get_or progress.done.items t at lt) ∙ slice_get-get_or progress.done.items t 0 lt in
        let same : get_or progress.done.items t at ≡ get_or progress.done.items t 0 = cc in
        let index : at ≡ slice_index s.done t = here ∙ same ∙ ap (λ (d : List ℕ). slice_index d t) stands.done_is in
        ap (λ (d : ℕ). may_do s.held.owner t (action_after (tracks trace) t d)) (sym index) ∙ none_at_all at none

pub some_weaker : {A : Type 0} (o : Option A) (P Q : A → Type 0) → ((a : A) → P a → Q a) → IfSome o P → IfSome o Q
some_weaker None P Q f h = tt
some_weaker (Some a) P Q f h = f a h

pub none_weaker : {A : Type 0} (o : Option A) (P Q : Type 0) → (P → Q) → IfNone o P → IfNone o Q
none_weaker None P Q f h = f h
none_weaker (Some a) P Q f h = tt

-- ---- the history

set_last : {A : Type 0} (xs : List A) (x y : A) → set (xs ++ x ∷ []) (length xs) y ≡ xs ++ y ∷ []
set_last [] x y = refl
set_last (z ∷ zs) x y = ap (λ (l : List _). z ∷ l) (set_last zs x y)

-- another element in the place of what was just added
pub redone : {A : Type 0} (xs ys zs : List A) (x y : A) → ys ≡ xs ++ x ∷ [] → zs ≡ set ys (length ys - 1) y → zs ≡ xs ++ y ∷ []
redone xs ys zs x y pushed put =
    let shorter : length (xs ++ x ∷ []) - 1 ≡ length xs = omega (arith, length-append xs (x ∷ [])) in
    put ∙ ap (λ (l : List _). set l (length l - 1) y) pushed ∙ ap (λ (n : ℕ). set (xs ++ x ∷ []) n y) shorter ∙ set_last xs x y

-- what was just added is taken off again
pub popped : {A : Type 0} (xs ys zs : List A) (x : A) → ys ≡ xs ++ x ∷ [] → zs ≡ take (length ys - 1) ys → zs ≡ xs
popped xs ys zs x pushed taken =
    let shorter : length (xs ++ x ∷ []) - 1 ≡ length xs = omega (arith, length-append xs (x ∷ [])) in
    taken ∙ ap (λ (l : List _). take (length l - 1) l) pushed ∙ ap (λ (n : ℕ). take n (xs ++ x ∷ [])) shorter
    ∙ take_at xs (x ∷ []) (length xs) refl

-- ---- there are few events

op_counts : (texts : List Name) (ts : List Track) → action_count (tracks_of texts ts) ≡ op_count ts
op_counts texts [] = refl
op_counts texts (t ∷ ts) =
    omega (
      arith,
      op_counts texts ts,
      sum_by-cons (λ (x : PlainTrack). length x.actions) (track_of texts t)
          (tracks_of texts ts),
      sum_by-cons (λ (x : Track). length x.ops) t ts,
      length-map t.ops (action_of texts),
    )

-- few enough arenas were granted and pools taken to number one more
pub few_taken : (trace : Trace) (es : List Entry) (now : Holding) (progress : Progress) (faulted : Bool)
    → Stands trace es now progress faulted → (now.store.layout.given + 1 < 2 ^ 32)
    × (length now.store.layout.full < 2 ^ 63)
few_taken trace es old progress faulted stands =
    let few = few_taken_in (tracks trace) es in
    let short = legal_short (tracks trace) es stands.legal in
    let given : old.store.layout.given ≡ (last_state (tracks trace) es).held.layout.given =
    ap (λ (l : Layout). l.given) stands.held.layout in
    let full : length old.store.layout.full ≡ length (last_state (tracks trace) es).held.layout.full =
    ap (λ (l : Layout). length l.full) stands.held.layout in (
      omega (arith, few.0, short, given, op_counts trace.texts trace.tracks, stands.known.count),
      omega
          (arith, few.1, short, full, op_counts trace.texts trace.tracks, stands.known.count),
    )
