-- What is traced after an operation, over what the operation itself did.
use Rattle.std.proofs.Common.{◌≡◌, ℕ, zero, suc, ◌≤◌, Bool, true, false, cond, List, [], ◌∷◌, length, map}
use Rattle.std.proofs.Common.{replicate, Option, Some, None, Result, Ok, Err, refl, sym, ap, subst, ◌∙◌, arith, inl}
use Rattle.std.proofs.Common.{inr, true≢false}
use Rattle.std.specs.Prelude.{IfOk, IfSome}
use Rattle.std.specs.List.{AllByRecursion}
use Rattle.std.proofs.lemmas.Option.{slice_get_within}
use Rattle.mem_base.specs.Name.{Name}
use Rattle.mem_base.specs.Texts.{IsTable, text_at}
use Rattle.mem_base.specs.declared.history.Ask.{Ask}
use Rattle.mem_base.specs.declared.history.Grant.{Grant}
use Rattle.mem_base.specs.declared.reply.Diff.{Diff}
use Rattle.mem_base.specs.declared.reply.Fault.{Fault}
use Rattle.mem_base.specs.declared.reply.Frame.{Frame}
use Rattle.mem_base.specs.declared.reply.Group.{Group}
use Rattle.mem_base.specs.declared.reply.Reply.{Reply}
use Rattle.mem_base.specs.declared.reply.Reply.TheVariants as replies
use Rattle.mem_base.specs.declared.trace.Op.{Op}
use Rattle.layout_model.specs.Layout.{Layout}
use Rattle.frame_model.specs.Frames.{PlainFrame}
use Rattle.tracing_model.specs.Tracing.{Tracing, Change, gets, forgets, starts, stops, clears, resets, keeps, after}
use Rattle.map_model.specs.Map.{find}
use Rattle.snapshot_model.specs.Compared.{Change as KeyChange, plain_change}
use Rattle.snapshot_model.specs.Stats.{PlainGroup, plain_group}
use Rattle.request_model.specs.Decision.{Decision, too_great, faults, asks, max_size}
use Rattle.request_model.proofs.CallerLemmas.{Decides, over_all, faulty, over_data, within, decides}
use Rattle.event_model.specs.Blocks.{Block}
use Rattle.event_model.specs.Deeds.{Deed, takes_lock, gives_lock, calls, frees, writes_bytes, reads_bytes, moves}
use Rattle.event_model.specs.Deeds.{changes, marks, asks_traced, asks_trace, takes_snapshot, keeps_by, asks_snapshots}
use Rattle.event_model.specs.Deeds.{asks_shape, lists_request}
use Rattle.event_model.specs.Effects.{change_of, effect, follow, is_quiet as is_quiet_deed, tracing_after}
use Rattle.event_model.specs.Frames.{frames_at}
use Rattle.event_model.specs.Memory.{SizedCall, Turn, came_to, change_turn, finding_of, new_block_turn, sized_turn}
use Rattle.event_model.specs.Memory.{turn_to}
use Rattle.event_model.specs.Replies.{PlainReply, IsKnownReply, ok, null, busy, absent, outside, held, not_held}
use Rattle.event_model.specs.Replies.{not_tracing, no_snapshot, untraced, traced, frames, groups, changed, dumped, bytes}
use Rattle.event_model.specs.Replies.{shape, fault}
use Rattle.event_model.specs.Replies.{kept as kept_traces, unsaid, frame_of, AreKnownFrames}
use Rattle.event_model.specs.Replies.{frames_of, is_fault, is_ok, plain_reply}
use Rattle.event_model.specs.State.{Held, is_owner}
use Rattle.event_model.specs.Tracing.{unknown_frame, where_ok}
use Rattle.domain_api.specs.declared.answers.Asked.{Asked}
use Rattle.block_store.specs.Store.{IsTurn, StoreView}
use Rattle.block_store.specs.declared.answer.Answer.{Answer}
use Rattle.frame_stack.specs.Callers.{CallersView}
use Rattle.trace_table.specs.Ranks.{AreRanks}
use Rattle.trace_table.specs.Tracing.{HoldsTheSame, TracingView}
use Rattle.snap_store.specs.Stand.{SnapshotsStand, SnapshotsView}
use Rattle.snap_store.proofs.CallerLemmas.{stand_later}
use Rattle.trace_table.specs.declared.key.TraceKey.TheVariants as keys
use Rattle.machine_core.specs.Acts.{Acts, ActsAmong, Affects, AffectsAmong, Done, HasEffect}
use Rattle.machine_core.specs.Deeds.{deed_for, is_quiet}
use Rattle.machine_core.specs.Held.{Holds, IsAsItWas, StandsFor}
use Rattle.machine_core.specs.Prepared.{ComesToNothing, IsPrepared, IsPreparedFor, IsTraceBy, Makes, MakesWhere}
use Rattle.machine_core.specs.Traces.{TracesStand}
use Rattle.machine_core.specs.declared.held.Held.{Held as Holding}
use Rattle.machine_core.specs.declared.traces.Prepared.{Prepared}
use Rattle.machine_core.specs.declared.traces.Prepared.TheVariants as prepared
use Rattle.machine_core.proofs.DeedLemmas.{still_quiet}
use Rattle.machine_core.proofs.FrameLemmas.{trace_named}
use Rattle.machine_core.proofs.TraceLemmas.{forgets_stand, gets_stand, idle_stands, keeps_stand, traces_stay}

-- ---- all as it was

pub same_tracing : (now : TracingView) → HoldsTheSame now now
same_tracing now = record { limit = refl; each = λ key. refl; bytes = refl; peak = refl }

pub unchanged : (now : Holding) → IsAsItWas now now
unchanged now = record { store = refl; owner = refl; callers = refl; numbers = λ i fs at. at; tracing = same_tracing now.tracing; ranks = refl; snapshots = refl }

-- what stood for what is held by name stands for it still
pub as_it_was_stands : (texts : List Name) (old new : Holding) (h : Held) → IsAsItWas old new
    → StandsFor texts old h → StandsFor texts new h
as_it_was_stands texts old new h same stands = record {
  blocks = subst (λ (s : _). Holds texts s.blocks h.blocks) (sym same.store) stands.blocks;
  layout = ap (λ s. s.layout) same.store ∙ stands.layout;
  owner = same.owner ∙ stands.owner;
  files = ap (λ (c : CallersView). c.files) same.callers ∙ stands.files;
  frames = stands.frames ∙ ap (λ (c : CallersView). map (frames_of texts) c.frames) (sym same.callers);
  traces = traces_stay texts old.callers.table new.callers.table old.tracing new.tracing h.tracing same.numbers
      same.tracing stands.traces;
  ranks = subst (λ (r : Option (List ℕ)). IfSome r (AreRanks texts)) (sym same.ranks) stands.ranks;
  snapshots = subst (λ (s : SnapshotsView). SnapshotsStand texts new.callers.table s h.snapshots) (sym same.snapshots)
      (stand_later texts old.callers.table new.callers.table same.numbers old.snapshots h.snapshots stands.snapshots);
}

-- ---- over what the operation itself did

module _ (texts : List Name) (h : Held) (t : ℕ) (op : Op) (asked : Asked) (mid new : Holding) (reply : Reply)
    (e : HasEffect texts h t op asked mid reply) (others : new ≡ record mid { tracing = new.tracing }) where
  abbrev left : Held × PlainReply
  left = effect h t (deed_for texts op) asked.arena asked.raw

  -- all but what is traced is as it was
  with_traces : (g : Held) (tracing : Option Tracing) → StandsFor texts mid g
      → TracesStand texts mid.callers.table new.tracing tracing
      → StandsFor texts new (record g { tracing = tracing })
  with_traces g tracing stands traces = record {
    blocks = subst (λ (n : Holding). Holds texts n.store.blocks g.blocks) (sym others) stands.blocks;
    layout = ap (λ (n : Holding). n.store.layout) others ∙ stands.layout;
    owner = ap (λ (n : Holding). n.owner) others ∙ stands.owner;
    files = ap (λ (n : Holding). n.callers.files) others ∙ stands.files;
    frames = stands.frames ∙ ap (λ (n : Holding). map (frames_of texts) n.callers.frames) (sym others);
    traces = subst (λ (n : Holding). TracesStand texts n.callers.table new.tracing tracing) (sym others) traces;
    ranks = subst (λ (n : Holding). IfSome n.ranks (AreRanks texts)) (sym others) stands.ranks;
    snapshots = subst (λ (n : Holding). SnapshotsStand texts n.callers.table n.snapshots g.snapshots) (sym others)
        stands.snapshots;
  }

  pub follows : (is_fault left.1 ≡ true → new.tracing ≡ mid.tracing)
      → ((g : Held) → StandsFor texts mid g
      → TracesStand texts mid.callers.table new.tracing
      (tracing_after (frames_at g.frames t) (deed_for texts op) left.1 g.tracing))
      → Done texts h t op asked new reply
  follows at_fault then_traced = record { held = by (is_fault left.1) refl e.held; answer = e.answer; fits = e.fits }
    where
      by : (b : Bool) → is_fault left.1 ≡ b → StandsFor texts mid (cond b h left.0)
          → StandsFor texts new (cond b h (follow t (deed_for texts op) left).0)
      by true fell stands =
          with_traces h h.tracing stands
          (subst (λ (v : TracingView). TracesStand texts mid.callers.table v h.tracing) (sym (at_fault fell))
          stands.traces)
      by false sound stands = with_traces left.0
          (tracing_after (frames_at left.0.frames t) (deed_for texts op) left.1 left.0.tracing) stands
          (then_traced left.0 stands)

-- what is traced goes on
goes_on : (texts : List Name) (table : List (List Frame)) (now : TracingView) (fs : List PlainFrame)
    (t : Option Tracing) (change : Change) → change ≡ keeps → TracesStand texts table now t
    → TracesStand texts table now (after unknown_frame fs change t)
goes_on texts table now fs t change is stands =
    subst (λ (c : Change). TracesStand texts table now (after unknown_frame fs c t)) (sym is)
    (keeps_stand texts table fs now t stands)

-- an operation that means nothing for what is traced
pub kept_among : (texts : List Name) (t : ℕ) (op : Op) (old new : Holding) (asked : Asked) (reply : Reply)
    → ((r : PlainReply) → change_of (deed_for texts op) r ≡ keeps)
    → AffectsAmong texts t op old new asked reply → ActsAmong texts t op old new asked reply
kept_among texts t op old new asked reply keep affects = λ h table stands.
    let e = affects h table stands in
    let r = effect h t (deed_for texts op) asked.arena asked.raw in
    follows texts h t op asked new new reply e refl (λ fell. refl)
    (λ g there. goes_on texts new.callers.table new.tracing (frames_at g.frames t) g.tracing
    (change_of (deed_for texts op) r.1) (keep r.1) there.traces)

pub kept : (t : ℕ) (op : Op) (old new : Holding) (asked : Asked) (reply : Reply)
    → ((texts : List Name) (r : PlainReply) → change_of (deed_for texts op) r ≡ keeps)
    → Affects t op old new asked reply
    → Acts t op old new asked reply
kept t op old new asked reply keep affects = λ texts. kept_among texts t op old new asked reply (keep texts) (affects texts)

-- ---- an operation that may ask a source

-- no call for more bytes than a block may have answers ok
new_small : (call : SizedCall) (fell : Option Fault) (arena : Grant) (raw : Ask) (l : Layout) (d : Decision)
    → Decides call.size fell d → is_ok (new_block_turn call arena raw l d).answer ≡ true → call.size ≤ max_size
new_small call fell arena raw l too_great (over_all great) is = absurd (true≢false (sym is))
new_small call fell arena raw l too_great (over_data great none) is = absurd (true≢false (sym is))
new_small call fell arena raw l (faults _) (faulty which small some) is = small
new_small call fell arena raw l asks (within small none) is = omega (arith, small)

change_small : (call : SizedCall) (fell : Option Fault) (arena : Grant) (raw : Ask) (l : Layout) (block : Block)
    (d : Decision) → Decides call.size fell d
    → is_ok (change_turn call arena raw l block d).answer ≡ true → call.size ≤ max_size
change_small call fell arena raw l block too_great (over_all great) is = absurd (true≢false (sym is))
change_small call fell arena raw l block too_great (over_data great none) is = absurd (true≢false (sym is))
change_small call fell arena raw l block (faults _) (faulty which small some) is = small
change_small call fell arena raw l block asks (within small none) is = omega (arith, small)

sized_small : (call : SizedCall) (locked : Bool) (arena : Grant) (raw : Ask) (l : Layout) (now : Option Block)
    → is_ok (sized_turn call locked arena raw l now).answer ≡ true → call.size ≤ max_size
sized_small call locked arena raw l None is =
    new_small call _ arena raw l (came_to call locked None) (decides call.letter call.size locked None) is
sized_small call locked arena raw l (Some block) is = by call.goes_on is
  where
    d : Decision
    d = came_to call locked (Some block)

    by : (b : Bool) → is_ok (cond b (change_turn call arena raw l block d) (turn_to (Some block) l busy)).answer ≡
        true → call.size ≤ max_size
    by true is = change_small call _ arena raw l block d
        (decides call.letter call.size locked (finding_of call.letter (Some block))) is
    by false is = absurd (true≢false (sym is))

-- how many bytes a key gets
abbrev pub gets_size : Change → ℕ
gets_size (gets key size) = size
gets_size (forgets key) = 0
gets_size (starts limit) = 0
gets_size stops = 0
gets_size clears = 0
gets_size resets = 0
gets_size keeps = 0

-- what an ok brings is small enough for a block
small_where_ok : (h : Held) (t : ℕ) (d : Deed) (asked : Asked) → is_quiet_deed d ≡ false
    → is_ok (effect h t d asked.arena asked.raw).1 ≡ true → gets_size (change_of d ok) ≤ max_size
small_where_ok h t takes_lock asked asking is = absurd (true≢false asking)
small_where_ok h t gives_lock asked asking is = absurd (true≢false asking)
small_where_ok h t (calls name call) asked asking is =
    sized_small call (is_owner h.owner t) asked.arena asked.raw h.layout (find h.blocks name) is
small_where_ok h t (frees letter name) asked asking is = omega arith
small_where_ok h t (writes_bytes name offset written) asked asking is = absurd (true≢false asking)
small_where_ok h t (reads_bytes name offset count) asked asking is = absurd (true≢false asking)
small_where_ok h t (moves f) asked asking is = absurd (true≢false asking)
small_where_ok h t (changes change) asked asking is = absurd (true≢false asking)
small_where_ok h t (marks change) asked asking is = absurd (true≢false asking)
small_where_ok h t asks_traced asked asking is = absurd (true≢false asking)
small_where_ok h t (asks_trace name) asked asking is = absurd (true≢false asking)
small_where_ok h t (takes_snapshot name) asked asking is = absurd (true≢false asking)
small_where_ok h t (keeps_by later old rules) asked asking is = absurd (true≢false asking)
small_where_ok h t (asks_snapshots question) asked asking is = absurd (true≢false asking)
small_where_ok h t asks_shape asked asking is = absurd (true≢false asking)
small_where_ok h t (lists_request side number) asked asking is = omega arith

-- it means for what is traced what an ok means, or nothing
only_ok : (d : Deed) (r : PlainReply) → is_quiet_deed d ≡ false → change_of d r ≡ where_ok r (change_of d ok)
only_ok takes_lock r asking = absurd (true≢false asking)
only_ok gives_lock r asking = absurd (true≢false asking)
only_ok (calls name call) r asking = refl
only_ok (frees letter name) r asking = refl
only_ok (writes_bytes name offset written) r asking = absurd (true≢false asking)
only_ok (reads_bytes name offset count) r asking = absurd (true≢false asking)
only_ok (moves f) r asking = absurd (true≢false asking)
only_ok (changes change) r asking = absurd (true≢false asking)
only_ok (marks change) r asking = absurd (true≢false asking)
only_ok asks_traced r asking = absurd (true≢false asking)
only_ok (asks_trace name) r asking = absurd (true≢false asking)
only_ok (takes_snapshot name) r asking = absurd (true≢false asking)
only_ok (keeps_by later old rules) r asking = absurd (true≢false asking)
only_ok (asks_snapshots question) r asking = absurd (true≢false asking)
only_ok asks_shape r asking = absurd (true≢false asking)
only_ok (lists_request side number) r asking = by (is_ok r)
  where
    by : (b : Bool) → keeps ≡ cond b keeps keeps
    by true = refl
    by false = refl

-- a fault is no ok
fault_not_ok : (r : PlainReply) → is_fault r ≡ true → is_ok r ≡ false
fault_not_ok ok fell = absurd (true≢false (sym fell))
fault_not_ok null fell = refl
fault_not_ok busy fell = refl
fault_not_ok absent fell = refl
fault_not_ok outside fell = refl
fault_not_ok held fell = refl
fault_not_ok not_held fell = refl
fault_not_ok not_tracing fell = refl
fault_not_ok no_snapshot fell = refl
fault_not_ok untraced fell = refl
fault_not_ok (traced current most) fell = refl
fault_not_ok (frames fs total) fell = refl
fault_not_ok (kept_traces count) fell = refl
fault_not_ok (groups count first) fell = refl
fault_not_ok (changed count first) fell = refl
fault_not_ok (dumped text) fell = refl
fault_not_ok (bytes found) fell = refl
fault_not_ok (shape view) fell = refl
fault_not_ok (fault found block) fell = refl
fault_not_ok unsaid fell = refl

-- what was prepared was made of what is traced
module _ (texts : List Name) (names : IsTable texts) (t : ℕ) (mid now : Holding) (new : TracingView) (g : Held)
    (stands : StandsFor texts now g)
    (others : now ≡ record mid { store = now.store }) (known : length mid.store.blocks ≡ length texts) where
  none_made : (change : Change) → ComesToNothing mid.tracing.limit change → gets_size change ≤ max_size
      → TracesStand texts now.callers.table now.tracing (after unknown_frame (frames_at g.frames t) change g.tracing)
  none_made (gets key size) ready small = elim ready [
    | inl none ↦ idle_stands texts now.callers.table now.tracing (frames_at g.frames t) key size g.tracing
        stands.traces (ap (λ (n : Holding). n.tracing.limit) others ∙ none)
    | inr great ↦ absurd (omega (arith, great, small))
  ]
  none_made (forgets key) ready small = absurd ready
  none_made (starts limit) ready small = absurd ready
  none_made stops ready small = absurd ready
  none_made clears ready small = absurd ready
  none_made resets ready small = absurd ready
  none_made keeps ready small = keeps_stand texts now.callers.table (frames_at g.frames t) now.tracing g.tracing stands.traces

  made_stands : (p : Prepared) (change : Change) → IsPreparedFor texts mid t p change → gets_size change ≤ max_size
      → MakesWhere true p now.tracing new
      → TracesStand texts now.callers.table new (after unknown_frame (frames_at g.frames t) change g.tracing)
  made_stands (prepared.Gets name of) change ready small made =
      let by : IsTraceBy now t of.size of = subst (λ (n : Holding). IsTraceBy n t of.size of) (sym others)
      (record {
        limit = ready.2.limit;
        limited = ready.2.limited;
        kept = ready.2.kept;
        counted = ready.2.counted;
        sized = refl;
      }) in
      subst (λ (c : Change). TracesStand texts now.callers.table new
      (after unknown_frame (frames_at g.frames t) c g.tracing)) (sym ready.0)
      (gets_stand texts now.callers.table now.tracing new (keys.Block name) (frames_at g.frames t) names.distinct
      (omega (arith, ready.1, known)) g.tracing by.limit of.size of
      stands.traces by.limited made (slice_get_within now.callers.table of.trace.0 _ by.kept)
      (trace_named texts names now g.frames stands.frames t of.size of by))
  made_stands (prepared.Forgets name) change ready small made =
      subst (λ (c : Change). TracesStand texts now.callers.table new
      (after unknown_frame (frames_at g.frames t) c g.tracing)) (sym ready.0)
      (forgets_stand texts now.callers.table now.tracing new (keys.Block name) (frames_at g.frames t) names.distinct
      (omega (arith, ready.1, known)) g.tracing stands.traces made)
  made_stands prepared.Nothing change ready small made =
      subst (λ (v : TracingView). TracesStand texts now.callers.table v
      (after unknown_frame (frames_at g.frames t) change g.tracing)) (sym made) (none_made change ready small)

-- an answer that is no ok makes nothing
not_made : (p : Prepared) (old new : TracingView) (b : Bool) → b ≡ false → MakesWhere b p old new → new ≡ old
not_made p old new true is made = absurd (true≢false is)
not_made p old new false is made = made

-- an operation that may ask a source was prepared, did what it does, and was traced
pub asked_acts : (t : ℕ) (op : Op) (old mid now new : Holding) (asked : Asked) (reply : Reply) (p : Prepared)
    → is_quiet op ≡ false → IsAsItWas old mid → IsPrepared t op mid p → Affects t op mid now asked reply
    → now ≡ record mid { store = now.store } → Makes p reply now.tracing new.tracing
    → new ≡ record now { tracing = new.tracing } → Acts t op old new asked reply
asked_acts t op old mid now new asked reply p asking same ready affects others makes rest = λ texts h names stands.
    let before = as_it_was_stands texts old mid h same stands in
    let e = affects texts h names before in
    let r = effect h t (deed_for texts op) asked.arena asked.raw in
    let made : MakesWhere (is_ok r.1) p now.tracing new.tracing =
    subst (λ (x : PlainReply). MakesWhere (is_ok x) p now.tracing new.tracing) e.answer (makes texts) in
    follows texts h t op asked now new reply e rest
    (λ fell. not_made p now.tracing new.tracing (is_ok r.1) (fault_not_ok r.1 fell) made)
    (λ g there. by_ok texts h names g e.answer before there made (is_ok r.1) refl)
  where
    by_ok : (texts : List Name) (h : Held) (names : IsTable texts) (g : Held)
        → plain_reply texts reply ≡ (effect h t (deed_for texts op) asked.arena asked.raw).1
        → StandsFor texts mid h → StandsFor texts now g
        → MakesWhere (is_ok (effect h t (deed_for texts op) asked.arena asked.raw).1) p now.tracing new.tracing
        → (b : Bool) → is_ok (effect h t (deed_for texts op) asked.arena asked.raw).1 ≡ b
        → TracesStand texts now.callers.table new.tracing
        (tracing_after (frames_at g.frames t) (deed_for texts op)
        (effect h t (deed_for texts op) asked.arena asked.raw).1 g.tracing)
    by_ok texts h names g answered before there made true is =
        let r = (effect h t (deed_for texts op) asked.arena asked.raw).1 in
        let change = change_of (deed_for texts op) ok in
        let meant : change_of (deed_for texts op) r ≡ change =
        only_ok (deed_for texts op) r (still_quiet op texts ∙ asking) ∙ ap (λ (b : Bool). cond b change keeps) is in
        subst (λ (c : Change). TracesStand texts now.callers.table new.tracing
        (after unknown_frame (frames_at g.frames t) c g.tracing)) (sym meant)
        (made_stands texts names t mid now new.tracing g there others before.blocks.size p change (ready texts)
        (small_where_ok h t (deed_for texts op) asked (still_quiet op texts ∙ asking) is)
        (subst (λ (b : Bool). MakesWhere b p now.tracing new.tracing) is made))
    by_ok texts h names g answered before there made false is =
        let r = (effect h t (deed_for texts op) asked.arena asked.raw).1 in
        let change = change_of (deed_for texts op) ok in
        let meant : change_of (deed_for texts op) r ≡ keeps =
        only_ok (deed_for texts op) r (still_quiet op texts ∙ asking) ∙ ap (λ (b : Bool). cond b change keeps) is in
        subst (λ (v : TracingView). TracesStand texts now.callers.table v
        (tracing_after (frames_at g.frames t) (deed_for texts op) r g.tracing))
        (sym (not_made p now.tracing new.tracing (is_ok r) is made))
        (goes_on texts now.callers.table now.tracing (frames_at g.frames t) g.tracing
        (change_of (deed_for texts op) r) meant there.traces)

-- ---- replies whose texts are known

-- a frame has another file in other texts
abbrev many : ℕ → List Name
many n = replicate (suc n) (0 ∷ [])

differs : (f : Frame) → frame_of [] f ≡ frame_of (many f.file.0) f → ⊥
differs f e =
    absurd (omega (arith, ap (λ (p : PlainFrame). length p.file) e, ap (λ (name : Name). length name) (read f.file.0)))
  where
    read : (n : ℕ) → text_at (many n) (record { 0 = n }) ≡ 0 ∷ []
    read zero = refl
    read (suc n) = read n

-- frames that are the same whatever the texts are say no text
textless_frames : (texts : ℕ) (fs : List Frame) (is : List PlainFrame) → ((names : List Name) → frames_of names fs ≡ is)
    → AreKnownFrames texts fs
textless_frames texts [] is same = tt
textless_frames texts (f ∷ fs) is same =
    let both : frames_of [] (f ∷ fs) ≡ frames_of (many f.file.0) (f ∷ fs) = same [] ∙ sym (same (many f.file.0)) in
    absurd (differs f (let first : frame_of [] f ≡ frame_of (many f.file.0) f = cc in first))

-- and so do groups
textless_groups : (texts : ℕ) (gs : List Group) (is : List PlainGroup) → ((names : List Name) → map (plain_group names) gs ≡ is)
    → AllByRecursion (λ g. AreKnownFrames texts g.key) gs
textless_groups texts [] is same = tt
textless_groups texts (g ∷ gs) [] same = let none : map (plain_group []) (g ∷ gs) ≡ [] = same [] in absurd cc
textless_groups texts (g ∷ gs) (i ∷ is) same = (textless_frames texts g.key i.key first, textless_groups texts gs is rest)
  where
    first : (names : List Name) → frames_of names g.key ≡ i.key
    first names =
        let both : map (plain_group names) (g ∷ gs) ≡ i ∷ is = same names in
        let one : plain_group names g ≡ i = cc in
        ap (λ (p : PlainGroup). p.key) one

    rest : (names : List Name) → map (plain_group names) gs ≡ is
    rest names = let both : map (plain_group names) (g ∷ gs) ≡ i ∷ is = same names in cc

-- and changes
textless_changes : (texts : ℕ) (ds : List Diff) (is : List KeyChange) → ((names : List Name) → map (plain_change names) ds ≡ is)
    → AllByRecursion (λ d. AreKnownFrames texts d.key) ds
textless_changes texts [] is same = tt
textless_changes texts (d ∷ ds) [] same = let none : map (plain_change []) (d ∷ ds) ≡ [] = same [] in absurd cc
textless_changes texts (d ∷ ds) (i ∷ is) same = (textless_frames texts d.key i.key first, textless_changes texts ds is rest)
  where
    first : (names : List Name) → frames_of names d.key ≡ i.key
    first names =
        let both : map (plain_change names) (d ∷ ds) ≡ i ∷ is = same names in
        let one : plain_change names d ≡ i = cc in
        ap (λ (c : KeyChange). c.key) one

    rest : (names : List Name) → map (plain_change names) ds ≡ is
    rest names = let both : map (plain_change names) (d ∷ ds) ≡ i ∷ is = same names in cc

-- a reply that says the same whatever the texts are says no text
pub textless : (texts : ℕ) (reply : Reply) (r : PlainReply) → ((names : List Name) → plain_reply names reply ≡ r)
    → IsKnownReply texts reply
textless texts replies.Ok r same = tt
textless texts replies.Null r same = tt
textless texts replies.Busy r same = tt
textless texts replies.Absent r same = tt
textless texts replies.Outside r same = tt
textless texts replies.Held r same = tt
textless texts replies.NotHeld r same = tt
textless texts replies.NotTracing r same = tt
textless texts replies.NoSnapshot r same = tt
textless texts replies.Untraced r same = tt
textless texts (replies.Bytes found) r same = tt
textless texts (replies.Traced current most) r same = tt
textless texts (replies.Kept count) r same = tt
textless texts (replies.Frames fs total) r same =
    textless_frames texts fs (frames_of [] fs)
    (λ names. let both : plain_reply names (replies.Frames fs total) ≡ plain_reply [] (replies.Frames fs total) =
    same names ∙ sym (same []) in cc)
textless texts (replies.Groups count gs) r same =
    textless_groups texts gs (map (plain_group []) gs)
    (λ names. let both : plain_reply names (replies.Groups count gs) ≡ plain_reply [] (replies.Groups count gs) =
    same names ∙ sym (same []) in cc)
textless texts (replies.Diffs count ds) r same =
    textless_changes texts ds (map (plain_change []) ds)
    (λ names. let both : plain_reply names (replies.Diffs count ds) ≡ plain_reply [] (replies.Diffs count ds) =
    same names ∙ sym (same []) in cc)
textless texts (replies.Dumped text) r same = tt
textless texts (replies.Heap view) r same = tt
textless texts (replies.Fault found block) r same = tt

-- a call for a block, or want of memory
pub sized_known : {E : Type 0} (texts : ℕ) (r : Result Answer E) (i : ℕ) (f : Asked → Layout → Option Block → Turn)
    (old new : StoreView) → IfOk r (λ a. IsTurn i (f a.asked) old new a.reply)
    → IfOk r (λ a. IsKnownReply texts a.reply)
sized_known texts (Ok a) i f old new turn = textless texts a.reply _ turn.answer
sized_known texts (Err e) i f old new turn = tt
