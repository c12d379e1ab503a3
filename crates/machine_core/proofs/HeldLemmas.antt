-- What an operation does to what is held, by number and by name.
use Rattle.std.proofs.Common.{◌≡◌, ℕ, ◌<◌, Bool, true, false, cond, List, length, map, set, Option, Some, None}
use Rattle.std.proofs.Common.{Result, Ok, Err, ℤ, pos, negsuc, to_z, of_z, w64, refl, sym, ap, subst, ◌∙◌, arith}
use Rattle.std.proofs.Common.{true≢false}
use Rattle.std.specs.Prelude.{IfOk, IfSome}
use Rattle.std.specs.declared.alloc.AllocError.{AllocError}
use Rattle.std.proofs.lemmas.List.{set-get_or}
use Rattle.std.proofs.lemmas.Int.{to_z-of_z}
use Rattle.mem_base.specs.Name.{Name}
use Rattle.mem_base.specs.Offset.{IsOffset}
use Rattle.mem_base.specs.Texts.{IsDistinct}
use Rattle.mem_base.specs.declared.history.Ask.TheVariants as ask
use Rattle.mem_base.specs.declared.history.Grant.TheVariants as grant
use Rattle.mem_base.specs.declared.reply.Fault.{Fault}
use Rattle.mem_base.specs.declared.reply.Reply.{Reply}
use Rattle.mem_base.specs.declared.reply.Reply.TheVariants as replies
use Rattle.mem_base.specs.declared.reply.View.{View}
use Rattle.mem_base.specs.declared.texts.TextId.{TextId}
use Rattle.mem_base.specs.declared.trace.Letter.{Letter}
use Rattle.mem_base.specs.declared.trace.Op.{Op}
use Rattle.mem_base.specs.declared.trace.Op.TheVariants as ops
use Rattle.mem_base.specs.declared.trace.Side.{Side}
use Rattle.block_model.specs.Block.{reaches, peeked, poked}
use Rattle.mem_base.specs.Texts.{text_at}
use Rattle.map_model.specs.Map.{find, hold}
use Rattle.layout_model.specs.Asks.{FitsRequest, Request}
use Rattle.layout_model.specs.Asks.Request.{NoRequest}
use Rattle.layout_model.specs.Layout.{Layout}
use Rattle.layout_model.specs.Sizes.{need}
use Rattle.layout_model.specs.View.{shape_of}
use Rattle.request_model.specs.Decision.{Decision, too_great, faults, asks, call_fault, request}
use Rattle.event_model.specs.Blocks.{Block, Blocks, Home}
use Rattle.event_model.specs.Deeds.{Deed}
use Rattle.event_model.specs.Effects.{change_of, effect, on_block, request_of}
use Rattle.event_model.specs.Lock.{acquire_turn, release_turn}
use Rattle.event_model.specs.Memory.{SizedCall, Turn, came_to, change_turn, changed_body, finding_of}
use Rattle.event_model.specs.Memory.{free_turn, free_unless, move_block, request_to_move, new_block}
use Rattle.event_model.specs.Memory.{new_block_turn, peek_turn, poke_turn, room_for, sized_request}
use Rattle.event_model.specs.Memory.{stays_in_place, turn_to}
use Rattle.event_model.specs.Replies.{PlainReply, busy, held as held_reply, not_held, ok, outside, bytes, frames_of}
use Rattle.event_model.specs.Replies.{is_fault, plain_reply}
use Rattle.event_model.specs.State.{Held, is_owner}
use Rattle.tracing_model.specs.Tracing.{keeps}
use Rattle.domain_api.specs.Domains.{not_asked}
use Rattle.domain_api.specs.declared.answers.Asked.{Asked}
use Rattle.block_store.specs.Store.{FitsCall, IsTurn, block_at, pooled_in, raw_in, shape_in, sized_by}
use Rattle.block_store.specs.declared.answer.Answer.{Answer}
use Rattle.block_store.specs.declared.answer.Call.{Call}
use Rattle.machine_core.specs.Acts.{Acts, Affects, left_by}
use Rattle.machine_core.specs.Deeds.{IsCallFor, deed_for}
use Rattle.machine_core.specs.Held.{Holds, StandsFor}
use Rattle.trace_table.specs.Ranks.{AreRanks}
use Rattle.snap_store.specs.Stand.{SnapshotsStand}
use Rattle.machine_core.specs.Traces.{TracesStand}
use Rattle.machine_core.specs.declared.held.Held.{Held as Holding}
use Rattle.machine_core.proofs.FollowLemmas.{kept}
use Rattle.machine_core.proofs.NameLemmas.{hold_holds, name_holds}

-- ---- operations on one block

-- where the answer is a fault, the operation leaves the block and the layout
abbrev pub StaysAtFault : (Layout → Option Block → Turn) → Type 0
StaysAtFault f = (l : Layout) (now : Option Block) → is_fault (f l now).answer ≡ true → ((f l now).block ≡ now)
    × ((f l now).layout ≡ l)

-- all but the store is as it was
with_store : (texts : List Name) (h : Held) (old new : Holding) (blocks : Blocks) (layout : Layout)
    → StandsFor texts old h → new ≡ record old { store = new.store }
    → Holds texts new.store.blocks blocks → new.store.layout ≡ layout
    → StandsFor texts new (record h { blocks = blocks; layout = layout })
with_store texts h old new blocks layout stands others holds laid = record {
  blocks = holds;
  layout = laid;
  owner = ap (λ (n : Holding). n.owner) others ∙ stands.owner;
  files = ap (λ (n : Holding). n.callers.files) others ∙ stands.files;
  frames = stands.frames ∙ ap (λ (n : Holding). map (frames_of texts) n.callers.frames) (sym others);
  traces = subst (λ (n : Holding). TracesStand texts n.callers.table n.tracing h.tracing) (sym others) stands.traces;
  ranks = subst (λ (n : Holding). IfSome n.ranks (AreRanks texts)) (sym others) stands.ranks;
  snapshots = subst (λ (n : Holding). SnapshotsStand texts n.callers.table n.snapshots h.snapshots) (sym others)
      stands.snapshots;
}

module _ (texts : List Name) (h : Held) (old new : Holding) (name : TextId) (f : Layout → Option Block → Turn) (reply : Reply)
    (distinct : IsDistinct texts) (stands : StandsFor texts old h) (lt : name.0 < length old.store.blocks)
    (turn : IsTurn name.0 f old.store new.store reply) (others : new ≡ record old { store = new.store }) where
  abbrev by_name : Held × PlainReply
  by_name = on_block h (text_at texts name) f

  -- the block of the number is that of the name
  here : find h.blocks (text_at texts name) ≡ block_at old.store name.0
  here = name_holds texts old.store.blocks h.blocks name stands.blocks lt

  same : f h.layout (find h.blocks (text_at texts name)) ≡ f old.store.layout (block_at old.store name.0)
  same = λ i. f (sym stands.layout i) (here i)

  pub turn_answers : plain_reply texts reply ≡ by_name.1
  turn_answers = turn.answer texts ∙ ap (λ (t : Turn). t.answer) (sym same)

  turn_stands : StandsFor texts new by_name.0
  turn_stands =
      with_store texts h old new by_name.0.blocks by_name.0.layout stands others
      (subst (λ (t : Turn). Holds texts new.store.blocks (hold h.blocks (text_at texts name) t.block)) (sym same)
      (subst (λ (l : List (Option Block)). Holds texts l
      (hold h.blocks (text_at texts name) (f old.store.layout (block_at old.store name.0)).block))
      (sym turn.blocks)
      (hold_holds texts old.store.blocks h.blocks name (f old.store.layout (block_at old.store name.0)).block
      distinct stands.blocks lt)))
      (turn.layout ∙ ap (λ (t : Turn). t.layout) (sym same))

  fault_stands : StaysAtFault f → is_fault (f old.store.layout (block_at old.store name.0)).answer ≡ true → StandsFor texts new h
  fault_stands stays fell =
      let kept = stays old.store.layout (block_at old.store name.0) fell in
      with_store texts h old new h.blocks h.layout stands others
      (subst (λ (l : List (Option Block)). Holds texts l h.blocks)
      (sym (turn.blocks ∙ ap (set old.store.blocks name.0) kept.0 ∙ set-get_or old.store.blocks name.0 None))
      stands.blocks)
      (turn.layout ∙ kept.1 ∙ stands.layout)

  pub turn_left : StaysAtFault f → StandsFor texts new (left_by h by_name)
  turn_left stays = by (is_fault by_name.1) refl
    where
      by : (b : Bool) → is_fault by_name.1 ≡ b → StandsFor texts new (cond b h by_name.0)
      by true fell = fault_stands stays (sym (ap (λ (t : Turn). is_fault t.answer) same) ∙ fell)
      by false sound = turn_stands

-- ---- what a fault leaves

sized_stays : (call : SizedCall) (locked : Bool) (asked : Asked) → StaysAtFault (sized_by call locked asked)
sized_stays call locked asked l now fell = by now fell
  where
    new_stays : (home : Option Home) (later : Layout) → is_fault (new_block call home later).answer ≡ true
        → ((new_block call home later).block ≡ None) × ((new_block call home later).layout ≡ l)
    new_stays None later fell = absurd (true≢false (sym fell))
    new_stays (Some home) later fell = absurd (true≢false (sym fell))

    by_new : (d : Decision) → is_fault (new_block_turn call asked.arena asked.raw l d).answer ≡ true
        → ((new_block_turn call asked.arena asked.raw l d).block ≡ None)
        × ((new_block_turn call asked.arena asked.raw l d).layout ≡ l)
    by_new too_great fell = absurd (true≢false (sym fell))
    by_new (faults found) fell = (refl, refl)
    by_new asks fell = let room =
        room_for l (request call.letter call.size) asked.arena asked.raw in new_stays room.home room.layout fell

    moved_stays : (block : Block) (home : Option Home) (later : Layout)
        → is_fault (move_block call block home later).answer ≡ true
        → ((move_block call block home later).block ≡ Some block) × ((move_block call block home later).layout ≡ l)
    moved_stays block None later fell = absurd (true≢false (sym fell))
    moved_stays block (Some home) later fell = absurd (true≢false (sym fell))

    changed : Block → Bool → Turn
    changed block b =
        cond b (turn_to (Some (record block { body = changed_body call block })) l ok)
        (let room = room_for l (request_to_move call block) asked.arena asked.raw in move_block call block room.home room.layout)

    by_place : (block : Block) (b : Bool) → is_fault (changed block b).answer ≡ true
        → ((changed block b).block ≡ Some block) × ((changed block b).layout ≡ l)
    by_place block true fell = absurd (true≢false (sym fell))
    by_place block false fell = let room =
        room_for l (request_to_move call block) asked.arena asked.raw in
        moved_stays block room.home room.layout fell

    by_change : (block : Block) (d : Decision) → is_fault (change_turn call asked.arena asked.raw l block d).answer ≡ true
        → ((change_turn call asked.arena asked.raw l block d).block ≡ Some block)
        × ((change_turn call asked.arena asked.raw l block d).layout ≡ l)
    by_change block too_great fell = absurd (true≢false (sym fell))
    by_change block (faults found) fell = (refl, refl)
    by_change block asks fell = by_place block (stays_in_place block (need call.size)) fell

    either : Block → Bool → Turn
    either block b = cond b (change_turn call asked.arena asked.raw l block (came_to call locked (Some block)))
        (turn_to (Some block) l busy)

    by_going : (block : Block) (b : Bool) → is_fault (either block b).answer ≡ true
        → ((either block b).block ≡ Some block) × ((either block b).layout ≡ l)
    by_going block true fell = by_change block (came_to call locked (Some block)) fell
    by_going block false fell = absurd (true≢false (sym fell))

    by : (now : Option Block) → is_fault (sized_by call locked asked l now).answer ≡ true
        → ((sized_by call locked asked l now).block ≡ now) × ((sized_by call locked asked l now).layout ≡ l)
    by None fell = by_new (came_to call locked None) fell
    by (Some block) fell = by_going block call.goes_on fell

free_stays : (v : Letter) (locked : Bool) → StaysAtFault (free_turn v locked)
free_stays v locked l now fell = by (call_fault v locked (finding_of v now)) now fell
  where
    by : (found : Option Fault) (now : Option Block) → is_fault (free_unless found l now).answer ≡ true
        → ((free_unless found l now).block ≡ now) × ((free_unless found l now).layout ≡ l)
    by None None fell = absurd (true≢false (sym fell))
    by None (Some block) fell = absurd (true≢false (sym fell))
    by (Some found) None fell = (refl, refl)
    by (Some found) (Some block) fell = (refl, refl)

poke_stays : (offset : ℤ) (new : List ℕ) → StaysAtFault (poke_turn offset new)
poke_stays offset new l None fell = absurd (true≢false (sym fell))
poke_stays offset new l (Some block) fell = absurd (true≢false (by (reaches block.body offset (length new)) fell))
  where
    by : (b : Bool) → is_fault
        (cond {A = Turn} b (turn_to (Some (record block { body = poked block.body offset new })) l ok)
        (turn_to (Some block) l outside)).answer ≡ true → true ≡ false
    by true fell = sym fell
    by false fell = sym fell

peek_stays : (offset : ℤ) (count : ℕ) → StaysAtFault (peek_turn offset count)
peek_stays offset count l None fell = absurd (true≢false (sym fell))
peek_stays offset count l (Some block) fell = absurd (true≢false (by (reaches block.body offset count) fell))
  where
    by : (b : Bool) → is_fault
        (cond {A = Turn} b (turn_to (Some block) l (bytes (peeked block.body offset count)))
        (turn_to (Some block) l outside)).answer ≡ true → true ≡ false
    by true fell = sym fell
    by false fell = sym fell

-- ---- offsets

-- an offset is passed on as it is
pub offset_back : (offset : ℤ) → IsOffset offset → to_z w64 (of_z w64 offset) ≡ offset
offset_back (pos n) is = to_z-of_z w64 (pos n) (record { sfits = is })
offset_back (negsuc n) is = to_z-of_z w64 (negsuc n) (record { sfits = omega (arith, is) })

-- ---- each operation

-- no source is asked
no_request : (l : Layout) → FitsRequest l NoRequest grant.NotAsked ask.NotAsked
no_request l = record { arena_asked = refl; raw_asked = refl; pools = tt }

module _ (t : ℕ) (op : Op) (old new : Holding) (reply : Reply) (others : new ≡ record old { store = new.store }) where
  pub sized_affects : (name : TextId) (call : SizedCall) (locked : Bool) (asked : Asked) → IsCallFor op name call
      → locked ≡ is_owner old.owner t
      → name.0 < length old.store.blocks → IsTurn name.0 (sized_by call locked asked) old.store new.store reply
      → FitsCall old.store name.0 call locked asked → Affects t op old new asked reply
  sized_affects name call locked asked is owns lt turn fits = λ texts h table stands.
      let mine : locked ≡ is_owner h.owner t = owns ∙ ap (λ (o : Option ℕ). is_owner o t) stands.owner in
      let f = sized_by call (is_owner h.owner t) asked in
      let now : IsTurn name.0 f old.store new.store reply =
      subst (λ (k : Bool). IsTurn name.0 (sized_by call k asked) old.store new.store reply) mine turn in
      let fit : FitsRequest old.store.layout (sized_request call (is_owner h.owner t) (block_at old.store name.0))
      asked.arena asked.raw =
      subst (λ (k : Bool). FitsCall old.store name.0 call k asked) mine fits in
      let there = name_holds texts old.store.blocks h.blocks name stands.blocks lt in
      let same : on_block h (text_at texts name) f ≡ effect h t (deed_for texts op) asked.arena asked.raw =
      ap (λ (d : Deed). effect h t d asked.arena asked.raw) (sym (is texts)) in
      record {
        held = subst (λ (r : Held × PlainReply). StandsFor texts new (left_by h r)) same
            (turn_left texts h old new name f reply table.distinct stands lt now others
            (sized_stays call (is_owner h.owner t) asked));
        answer = turn_answers texts h old new name f reply table.distinct stands lt now others
            ∙ ap (λ (r : Held × PlainReply). r.1) same;
        fits = subst (λ (r : Request). FitsRequest h.layout r asked.arena asked.raw)
            (sym (ap (request_of h t) (is texts)))
            (subst (λ (l : Layout). FitsRequest l
            (sized_request call (is_owner h.owner t) (find h.blocks (text_at texts name))) asked.arena
            asked.raw) stands.layout
            (subst (λ (o : Option Block). FitsRequest old.store.layout (sized_request call (is_owner h.owner t) o)
            asked.arena asked.raw) (sym there) fit));
      }

  pub free_affects : (letter : Letter) (name : TextId) (call : Call) → op ≡ ops.Free letter name
      → call ≡ record { letter = letter; locked = is_owner old.owner t }
      → name.0 < length old.store.blocks
      → IsTurn name.0 (free_turn call.letter call.locked) old.store new.store reply
      → Affects t op old new not_asked reply
  free_affects letter name call is called lt turn =
      subst (λ (o : Op). Affects t o old new not_asked reply) (sym is) (λ texts h table stands.
      let mine : call ≡ record { letter = letter; locked = is_owner h.owner t } =
      called ∙ ap (λ (o : Option ℕ). record { letter = letter; locked = is_owner o t }) stands.owner in
      let f = free_turn letter (is_owner h.owner t) in
      let now : IsTurn name.0 f old.store new.store reply =
      subst (λ (k : Call). IsTurn name.0 (free_turn k.letter k.locked) old.store new.store reply) mine turn in
      record {
        held = turn_left texts h old new name f reply table.distinct stands lt now others
            (free_stays letter (is_owner h.owner t));
        answer = turn_answers texts h old new name f reply table.distinct stands lt now others;
        fits = no_request h.layout;
      })

  pub poke_acts : (name : TextId) (offset : ℤ) (new_bytes : List ℕ) → op ≡ ops.Poke name offset new_bytes
      → name.0 < length old.store.blocks → IsTurn name.0 (poke_turn offset new_bytes) old.store new.store reply
      → Acts t op old new not_asked reply
  poke_acts name offset new_bytes is lt turn =
      subst (λ (o : Op). Acts t o old new not_asked reply) (sym is)
      (kept t (ops.Poke name offset new_bytes) old new not_asked reply (λ texts r. refl)
      (λ texts h table stands. record {
        held = turn_left texts h old new name (poke_turn offset new_bytes) reply table.distinct stands lt turn
            others (poke_stays offset new_bytes);
        answer = turn_answers texts h old new name (poke_turn offset new_bytes) reply table.distinct stands lt turn others;
        fits = no_request h.layout;
      }))

  pub peek_acts : (name : TextId) (offset : ℤ) (count : ℕ) → op ≡ ops.Peek name offset count
      → name.0 < length old.store.blocks → IsTurn name.0 (peek_turn offset count) old.store new.store reply
      → Acts t op old new not_asked reply
  peek_acts name offset count is lt turn =
      subst (λ (o : Op). Acts t o old new not_asked reply) (sym is)
      (kept t (ops.Peek name offset count) old new not_asked reply (λ texts r. refl)
      (λ texts h table stands. record {
        held = turn_left texts h old new name (peek_turn offset count) reply table.distinct stands lt turn others
            (peek_stays offset count);
        answer = turn_answers texts h old new name (peek_turn offset count) reply table.distinct stands lt turn others;
        fits = no_request h.layout;
      }))

-- ---- the lock

module _ (t : ℕ) (op : Op) (old new : Holding) (reply : Reply) where
  -- an operation on the owner that answers no fault
  lock_acts : (o : Op) (turn : Option ℕ → Option ℕ × PlainReply) → ((owner : Option ℕ) → is_fault (turn owner).1 ≡ false)
      → ((texts : List Name) (h : Held)
      → effect h t (deed_for texts o) grant.NotAsked ask.NotAsked ≡
      (record h { owner = (turn h.owner).0 }, (turn h.owner).1))
      → ((texts : List Name) (h : Held) → request_of h t (deed_for texts o) ≡ NoRequest)
      → ((texts : List Name) (r : PlainReply) → change_of (deed_for texts o) r ≡ keeps)
      → new ≡ record old { owner = (turn old.owner).0 }
      → ((texts : List Name) → plain_reply texts reply ≡ (turn old.owner).1) → Acts t o old new not_asked reply
  lock_acts o turn sound does none keep is says = kept t o old new not_asked reply keep (λ texts h table stands.
      let r : Held × PlainReply = (record h { owner = (turn h.owner).0 }, (turn h.owner).1) in
      let left : left_by h r ≡ record h { owner = (turn h.owner).0 } =
      ap (λ (b : Bool). cond {A = Held} b h (record h { owner = (turn h.owner).0 })) (sound h.owner) in
      record {
        held = subst (λ (x : Held × PlainReply). StandsFor texts new (left_by h x)) (sym (does texts h))
            (subst (StandsFor texts new) (sym left) (record {
              blocks = subst (λ (n : Holding). Holds texts n.store.blocks h.blocks) (sym is) stands.blocks;
              layout = ap (λ (n : Holding). n.store.layout) is ∙ stands.layout;
              owner = ap (λ (n : Holding). n.owner) is ∙ ap (λ (o : Option ℕ). (turn o).0) stands.owner;
              files = ap (λ (n : Holding). n.callers.files) is ∙ stands.files;
              frames = stands.frames ∙ ap (λ (n : Holding). map (frames_of texts) n.callers.frames) (sym is);
              traces = subst (λ (n : Holding). TracesStand texts n.callers.table n.tracing h.tracing) (sym is) stands.traces;
              ranks = subst (λ (n : Holding). IfSome n.ranks (AreRanks texts)) (sym is) stands.ranks;
              snapshots = subst (λ (n : Holding). SnapshotsStand texts n.callers.table n.snapshots h.snapshots) (sym is)
                  stands.snapshots;
            }));
        answer = says texts ∙ ap (λ (o : Option ℕ). (turn o).1) stands.owner
            ∙ sym (ap (λ (x : Held × PlainReply). x.1) (does texts h));
        fits = subst (λ (q : _). FitsRequest h.layout q grant.NotAsked ask.NotAsked) (sym (none texts h)) (no_request h.layout);
      })

  acquire_sound : (owner : Option ℕ) → is_fault (acquire_turn t owner).1 ≡ false
  acquire_sound owner = by (is_owner owner t)
    where
      by : (b : Bool) → is_fault (cond {A = Option ℕ × PlainReply} b (owner, held_reply) (Some t, ok)).1 ≡ false
      by true = refl
      by false = refl

  release_sound : (owner : Option ℕ) → is_fault (release_turn t owner).1 ≡ false
  release_sound owner = by (is_owner owner t)
    where
      by : (b : Bool) → is_fault (cond {A = Option ℕ × PlainReply} b (None, ok) (owner, not_held)).1 ≡ false
      by true = refl
      by false = refl

  pub acquire_acts : op ≡ ops.Acquire → new ≡ record old { owner = (acquire_turn t old.owner).0 }
      → ((texts : List Name) → plain_reply texts reply ≡ (acquire_turn t old.owner).1)
      → Acts t op old new not_asked reply
  acquire_acts is held says =
      subst (λ (o : Op). Acts t o old new not_asked reply) (sym is)
      (lock_acts ops.Acquire (acquire_turn t) acquire_sound (λ texts h. refl) (λ texts h. refl)
      (λ texts r. refl) held says)

  pub release_acts : op ≡ ops.Release → new ≡ record old { owner = (release_turn t old.owner).0 }
      → ((texts : List Name) → plain_reply texts reply ≡ (release_turn t old.owner).1)
      → Acts t op old new not_asked reply
  release_acts is held says =
      subst (λ (o : Op). Acts t o old new not_asked reply) (sym is)
      (lock_acts ops.Release (release_turn t) release_sound (λ texts h. refl) (λ texts h. refl)
      (λ texts r. refl) held says)

-- ---- operations that change nothing

-- what is held stands for the same, and its sums are those of the blocks by name
pub heap_acts : (t : ℕ) (op : Op) (old : Holding) (view : View) → op ≡ ops.Heap → view ≡ shape_in old.store
    → Acts t op old old not_asked (replies.Heap view)
heap_acts t op old view is seen =
    subst (λ (o : Op). Acts t o old old not_asked (replies.Heap view)) (sym is)
    (kept t ops.Heap old old not_asked (replies.Heap view) (λ texts r. refl) (λ texts h table stands.
    let pooled = stands.blocks.sums pooled_in refl in
    let raws = stands.blocks.sums raw_in refl in
    let shown : View → PlainReply = λ v. plain_reply texts (replies.Heap v) in
    record {
      held = stands;
      answer = ap shown (seen ∙ (λ i. shape_of (sym pooled i) (sym raws i) (stands.layout i)));
      fits = no_request h.layout;
    }))

pub refuse_affects : (t : ℕ) (op : Op) (old : Holding) (side : Side) (k : ℕ) → op ≡ ops.Refuse side k
    → Affects t op old old not_asked replies.Ok
refuse_affects t op old side k is =
    subst (λ (o : Op). Affects t o old old not_asked replies.Ok) (sym is)
    (λ texts h table stands. record { held = stands; answer = refl; fits = no_request h.layout })

-- ---- a request's result

-- a call for a block, or want of memory
pub sized_does : (t : ℕ) (op : Op) (old new : Holding) (name : TextId) (call : SizedCall) (locked : Bool)
    (r : Result Answer AllocError) → new ≡ record old { store = new.store }
    → IsCallFor op name call → locked ≡ is_owner old.owner t → name.0 < length old.store.blocks
    → IfOk r (λ a. IsTurn name.0 (sized_by call locked a.asked) old.store new.store a.reply)
    → IfOk r (λ a. FitsCall old.store name.0 call locked a.asked)
    → IfOk r (λ a. Affects t op old new a.asked a.reply)
sized_does t op old new name call locked (Ok a) others is owns lt turn fits =
    sized_affects t op old new a.reply others name call locked a.asked is owns lt turn fits
sized_does t op old new name call locked (Err e) others is owns lt turn fits = tt

-- ---- which call an operation is

-- the call of a domain by a track that owns the lock or not, whatever else it says
pub call_is : (sized : Letter → SizedCall) (v : Letter) (owns : Bool) (call : Call)
    → call ≡ record { letter = v; locked = owns } → (sized call.letter ≡ sized v) × (call.locked ≡ owns)
call_is sized v owns call is = (ap (λ (c : Call). sized c.letter) is, ap (λ (c : Call). c.locked) is)
