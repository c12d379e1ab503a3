-- The calls of a store, as turns of one slot.
use Rattle.std.proofs.Common.{◌≡◌, ◌≢◌, ℕ, zero, suc, ◌+◌, ◌<◌, ◌≤◌, Bool, true, false, cond, List, [], ◌∷◌}
use Rattle.std.proofs.Common.{length, get_or, replicate, set, Option, Some, None, ℤ, refl, sym, ap, subst}
use Rattle.std.proofs.Common.{◌∙◌, arith, inl, inr, length-append, true≢false}
use Rattle.std.specs.Prelude.{is_some}
use Rattle.std.proofs.lemmas.Grind.{common_steps}
use Rattle.std.proofs.lemmas.List.{get_or-set_other, length-map, set-get_or}
use Rattle.std.proofs.lemmas.Option.{slice_get-get_or}
use Rattle.std.proofs.Math.ListN.{get_or-map}
use Rattle.mem_base.specs.Name.{Name}
use Rattle.mem_base.specs.declared.history.Ask.{Ask}
use Rattle.mem_base.specs.declared.history.Ask.TheVariants as ask
use Rattle.mem_base.specs.declared.history.Grant.{Grant}
use Rattle.mem_base.specs.declared.history.Grant.TheVariants as grant
use Rattle.mem_base.specs.declared.reply.Fault.{Fault}
use Rattle.mem_base.specs.declared.reply.Reply.{Reply}
use Rattle.mem_base.specs.declared.trace.Letter.{Letter}
use Rattle.block_model.specs.Block.{body_of, finding_in, fresh, image_of, reaches, peeked, poked}
use Rattle.raw_region.specs.Region.{PieceView}
use Rattle.extents.specs.Extent.{Extent}
use Rattle.extents.proofs.CallerLemmas.{has_new}
use Rattle.sources.specs.Source.{ArenaShape, SourceView}
use Rattle.debug_guard.specs.Guard.{Guard, guard_extent, piece_of}
use Rattle.layout_model.specs.Asks.{FitsRequest, Request, raw_was_asked}
use Rattle.layout_model.specs.Asks.Request.{NoRequest}
use Rattle.layout_model.specs.Layout.{Layout, empty_layout}
use Rattle.layout_model.specs.Place.{place}
use Rattle.layout_model.specs.Sizes.{class_of, need}
use Rattle.request_model.specs.Decision.{Decision, too_great, faults, asks, call_fault, request}
use Rattle.py_heap.specs.Heap.{HeapView, empty_heap}
use Rattle.event_model.specs.Blocks.{Home, in_pool, in_raw, Block, len_at}
use Rattle.event_model.specs.Memory.{Room, SizedCall, Turn, block_made, came_to, change_turn, free_turn}
use Rattle.event_model.specs.Memory.{free_unless, layout_without, new_block, new_block_turn, peek_turn}
use Rattle.event_model.specs.Memory.{poke_turn, raw_home, room_for, turn_to}
use Rattle.event_model.specs.Replies.{PlainReply, busy, ok, null, fault, fault_in, bytes, outside, plain_reply}
use Rattle.domain_api.specs.Domains.{IsMade, IsFreed, IsGivenUp, IsLent}
use Rattle.domain_api.specs.Held.{AreHeld, AreSound, DomainsView}
use Rattle.domain_api.specs.declared.answers.Asked.{Asked}
use Rattle.domain_api.specs.declared.answers.Freed.{Freed}
use Rattle.domain_api.specs.declared.answers.Freed.TheVariants as frees
use Rattle.domain_api.specs.declared.answers.Got.{Got}
use Rattle.domain_api.specs.declared.answers.Got.TheVariants as gots
use Rattle.block_store.specs.Homes.{home_at}
use Rattle.block_store.specs.Replies.{answer_to, answer_after, slots_with, slots_after}
use Rattle.block_store.specs.Slots.{IsStore, block_in, block_of, blocks_of, piece_in, pieces_of}
use Rattle.block_store.specs.Store.{IsTurn, StoreView, block_at, empty_store, sized_by, view_of}
use Rattle.block_store.proofs.HomeLemmas.{home_of_freed, home_of_new, home_of_raw}
use Rattle.block_store.proofs.RoomLemmas.{room_in_pool, room_in_raw}
use Rattle.block_store.proofs.LoanLemmas.{gone_homes, gone_store, gone_stored, drop_blocks, left_others}
use Rattle.block_store.proofs.LoanLemmas.{lent_homes, lent_store, put_blocks}
use Rattle.block_store.proofs.StoredLemmas.{length-image_of, some_bytes}
use Rattle.block_store.proofs.Types.{Slots}

abbrev no_guard : Option Guard
no_guard = None

-- the reply says this, whatever names there are
abbrev pub Says : Reply → PlainReply → Type 0
Says reply answer = (texts : List Name) → plain_reply texts reply ≡ answer

-- ---- a slot

-- what is read of a slot is what it has
pub slot_is : (slots : Slots) (i : ℕ) (o : Option Guard) → i < length slots → o ≡ get_or slots i o → get_or slots i None ≡ o
slot_is slots i o lt is =
    let e : Some (get_or slots i None) ≡ Some (get_or slots i o) = sym (slice_get-get_or slots i None lt) ∙ slice_get-get_or slots i o lt in
    let same : get_or slots i None ≡ get_or slots i o = cc in
    same ∙ sym is

pub none_where : (o : Option Guard) → is_some o ≡ false → o ≡ None
none_where None h = refl
none_where (Some g) h = absurd (true≢false h)

-- an empty slot that is emptied
pub emptied : (slots : Slots) (i : ℕ) → get_or slots i None ≡ None → set slots i None ≡ slots
emptied slots i free = ap (set slots i) (sym free) ∙ set-get_or slots i None

pub set_twice : {X : Type 0} (xs : List X) (i : ℕ) (a b : X) → set (set xs i a) i b ≡ set xs i b
set_twice [] i a b = refl
set_twice (x ∷ xs) zero a b = refl
set_twice (x ∷ xs) (suc i) a b = ap (λ (l : List _). x ∷ l) (set_twice xs i a b)

-- a slot that held this, emptied and filled again
pub put_again : (slots : Slots) (i : ℕ) (o : Option Guard) → get_or slots i None ≡ o → set (set slots i None) i o ≡ slots
put_again slots i o is = set_twice slots i None o ∙ ap (set slots i) (sym is) ∙ set-get_or slots i None

-- the block with a number is that of its slot
pub at_is : (slots : Slots) (d : DomainsView) (i : ℕ) → block_at (view_of slots d) i ≡ block_in d.heap.places (get_or slots i None)
at_is slots d i = get_or-map (block_in d.heap.places) slots i None

-- a number that a store has is that of a slot
pub slots_length : (slots : Slots) (d : DomainsView) (s : StoreView) (i : ℕ) → view_of slots d ≡ s → i < length s.blocks → i < length slots
slots_length slots d s i is lt = omega (arith, lt, ap (λ (v : StoreView). length v.blocks) is, length-map slots (block_in d.heap.places))

none_in_slots : (n : ℕ) → blocks_of [] (replicate n no_guard) ≡ replicate n None
none_in_slots zero = refl
none_in_slots (suc n) = ap (λ (l : List (Option Block)). None ∷ l) (none_in_slots n)

no_pieces : (n : ℕ) → pieces_of (replicate n no_guard) ≡ replicate n None
no_pieces zero = refl
no_pieces (suc n) = ap (λ (l : List (Option PieceView)). None ∷ l) (no_pieces n)

-- a store at the start
pub opening_view : (n : ℕ) → view_of (replicate n None) (record { heap = empty_heap; raws = [] }) ≡ empty_store n
opening_view n = λ i. record { blocks = none_in_slots n i; pieces = no_pieces n i; layout = empty_layout; arenas = []; raws = [] }

-- ---- a turn

-- what the slot comes to
abbrev pub turn_at : Slots → DomainsView → ℕ → (Layout → Option Block → Turn) → Turn
turn_at slots d i f = f d.heap.layout (block_in d.heap.places (get_or slots i None))

module _ (slots : Slots) (d : DomainsView) (i : ℕ) (f : Layout → Option Block → Turn) (reply : Reply) where
  abbrev now : Turn
  now = turn_at slots d i f

  same_turn : f d.heap.layout (block_at (view_of slots d) i) ≡ now
  same_turn = ap (f d.heap.layout) (at_is slots d i)

  -- an operation that leaves what a slot holds, and the layout
  pub turn_stays : now.block ≡ block_in d.heap.places (get_or slots i None) → now.layout ≡ d.heap.layout → Says reply now.answer → IsTurn i f (view_of slots d) (view_of slots d) reply
  turn_stays stays laid says = record {
    blocks = sym (ap (λ (t : Turn). set (blocks_of d.heap.places slots) i t.block) same_turn ∙ ap (set (blocks_of d.heap.places slots) i) (stays ∙ sym (at_is slots d i)) ∙ set-get_or (blocks_of d.heap.places slots) i None);
    layout = sym (ap (λ (t : Turn). t.layout) same_turn ∙ laid);
    answer = λ texts. says texts ∙ sym (ap (λ (t : Turn). t.answer) same_turn);
    others = λ j other. refl;
  }

  -- the same, where the turn is told whole
  pub stays_so : (answer : PlainReply) → now ≡ turn_to (block_in d.heap.places (get_or slots i None)) d.heap.layout answer → Says reply answer → IsTurn i f (view_of slots d) (view_of slots d) reply
  stays_so answer is says =
      turn_stays (ap (λ (t : Turn). t.block) is) (ap (λ (t : Turn). t.layout) is) (λ texts. says texts ∙ sym (ap (λ (t : Turn). t.answer) is))

  others_stay : (o : Option Guard) (j : ℕ) → j ≢ i → get_or (pieces_of (set slots i o)) j None ≡ get_or (pieces_of slots) j None
  others_stay o j other = get_or-map piece_in (set slots i o) j None ∙ ap piece_in (get_or-set_other slots i j o None other) ∙ sym (get_or-map piece_in slots j None)

  -- an operation that changes what a slot holds, and no other slot's home
  pub turn_sets : (d' : DomainsView) (o : Option Guard) → blocks_of d'.heap.places (set slots i o) ≡ set (blocks_of d.heap.places slots) i (block_in d'.heap.places o)
      → now.block ≡ block_in d'.heap.places o → now.layout ≡ d'.heap.layout → Says reply now.answer → IsTurn i f (view_of slots d) (view_of (set slots i o) d') reply
  turn_sets d' o others is laid says = record {
    blocks = others ∙ ap (set (blocks_of d.heap.places slots) i) (sym (ap (λ (t : Turn). t.block) same_turn ∙ is));
    layout = sym (ap (λ (t : Turn). t.layout) same_turn ∙ laid);
    answer = λ texts. says texts ∙ sym (ap (λ (t : Turn). t.answer) same_turn);
    others = λ j other. others_stay o j other;
  }

  pub sets_so : (d' : DomainsView) (o : Option Guard) (answer : PlainReply) → blocks_of d'.heap.places (set slots i o) ≡ set (blocks_of d.heap.places slots) i (block_in d'.heap.places o)
      → now ≡ turn_to (block_in d'.heap.places o) d'.heap.layout answer → Says reply answer → IsTurn i f (view_of slots d) (view_of (set slots i o) d') reply
  sets_so d' o answer others is says =
      turn_sets d' o others (ap (λ (t : Turn). t.block) is) (ap (λ (t : Turn). t.layout) is) (λ texts. says texts ∙ sym (ap (λ (t : Turn). t.answer) is))

-- ---- requests

module _ (slots : Slots) (d : DomainsView) (i : ℕ) (call : SizedCall) (locked : Bool) (asked : Asked) where
  -- the name has a block, and the call does not go on from it
  pub busy_turn : (reply : Reply) → Says reply busy → call.goes_on ≡ false → is_some (get_or slots i None) ≡ true → IsTurn i (sized_by call locked asked) (view_of slots d) (view_of slots d) reply
  busy_turn reply says new some = stays_so slots d i (sized_by call locked asked) reply busy (by (get_or slots i None) some) says
    where
      by : (o : Option Guard) → is_some o ≡ true → sized_by call locked asked d.heap.layout (block_in d.heap.places o) ≡ turn_to (block_in d.heap.places o) d.heap.layout busy
      by None h = absurd (true≢false (sym h))
      by (Some g) h =
          let block = block_of d.heap.places g in
          ap (λ (b : Bool). cond {A = Turn} b (change_turn call asked.arena asked.raw d.heap.layout block (came_to call locked (Some block))) (turn_to (Some block) d.heap.layout busy)) new

  -- a free name, by what the call comes to
  made_is : (x : Decision) → get_or slots i None ≡ None → came_to call locked None ≡ x → turn_at slots d i (sized_by call locked asked) ≡ new_block_turn call asked.arena asked.raw d.heap.layout x
  made_is x free is =
      ap (λ (o : Option Guard). sized_by call locked asked d.heap.layout (block_in d.heap.places o)) free ∙ ap (new_block_turn call asked.arena asked.raw d.heap.layout) is

-- a call that came so far, where its room is this
room_so : (call : SizedCall) (arena : Grant) (raw : Ask) (l : Layout) (home : Option Home) (later : Layout) → room_for l (request call.letter call.size) arena raw ≡ record { home = home; layout = later }
    → new_block_turn call arena raw l asks ≡ new_block call home later
room_so call arena raw l home later is = ap (λ (r : Room). new_block call r.home r.layout) is

pub length-fresh : (v : Letter) (n b : ℕ) → length (fresh v n b) ≡ n + 16
unfolding body_of
length-fresh v n b = grind (arith, common_steps)

-- how many bytes a whole region has that is a new block
region_len : (v : Letter) (n fill : ℕ) (g : Guard) → g.body ≡ fresh v n fill → g.rest ≡ [] → length (piece_of g).bytes ≡ need n
region_len v n fill g body all = omega (arith, length-append (image_of g.body) g.rest, ap length all, length-image_of g.body, ap length body, length-fresh v n fill)

-- a request for n bytes leads to a pool where one gave the block, and to the raw source where that was asked
pub record Leads (r : Request) (n : ℕ) (l : Layout) (arena : Grant) (raw : Ask) : Type 0 where
  pub in_a_pool : (k : ℕ) → raw_was_asked raw ≡ false → (place l (class_of (need n)) arena).pool ≡ Some k
      → room_for l r arena raw ≡ record { home = Some (in_pool k); layout = (place l (class_of (need n)) arena).layout }
  pub in_a_region : raw_was_asked raw ≡ true → room_for l r arena raw ≡ record { home = raw_home raw; layout = l }

-- a request for a new block leads so
pub new_leads : (v : Letter) (n : ℕ) (l : Layout) (arena : Grant) (raw : Ask) → FitsRequest l (request v n) arena raw → Leads (request v n) n l arena raw
new_leads v n l arena raw fits = record {
  in_a_pool = λ k quiet gave. room_in_pool l v n arena raw k fits quiet gave;
  in_a_region = λ asked. room_in_raw l v n arena raw fits asked;
}

module _ (old new : DomainsView) (arenas : SourceView ArenaShape) (raws : SourceView ℕ) (sound : AreSound new.heap new.raws) (held : AreHeld new arenas raws) where
  -- where a block that was lent lies, for this request
  pub record Lies (r : Request) (n : ℕ) (g : Guard) (asked : Asked) : Type 0 where
    pub home : Home
    pub there : home_at new.heap.places g.place ≡ home
    pub len : length (piece_of g).bytes ≡ len_at home (need n)
    pub room : room_for old.heap.layout r asked.arena asked.raw ≡ record { home = Some home; layout = new.heap.layout }

  pub lies : (r : Request) (v : Letter) (n fill : ℕ) (g : Guard) (asked : Asked) → Leads r n old.heap.layout asked.arena asked.raw → IsLent v n fill g asked old new → Lies r n g asked
  lies r v n fill g asked leads lent = elim lent.lies [
    | inl small ↦
        let b = small.serves.got.1 in
        let long : 1 ≤ (guard_extent g).len = some_bytes g in
        record {
          home = in_pool b.pool;
          there = ap (λ (e : Extent). home_at new.heap.places e.place) (sym small.there)
              ∙ home_of_new (class_of (need n)) asked.arena small.piece old.heap new.heap sound.heap_is b (subst (λ (e : Extent). 1 ≤ e.len) (sym small.there) long);
          len = ap (λ (e : Extent). e.len) (sym small.there) ∙ b.len;
          room = leads.in_a_pool b.pool (ap raw_was_asked small.raw) b.placed
              ∙ ap (λ (l : Layout). record { home = Some (in_pool b.pool); layout = l }) (sym small.serves.layout);
        }
    | inr large ↦
        record {
          home = in_raw;
          there = home_of_raw new arenas raws (guard_extent g) sound.heap_is held (has_new (guard_extent g) old.raws new.raws large.lent) (some_bytes g);
          len = region_len v n fill g lent.body large.all;
          room = leads.in_a_region (ap raw_was_asked large.raw)
              ∙ (λ i. record { home = raw_home_is asked.raw large.raw i; layout = sym (ap (λ (h : HeapView). h.layout) large.heap) i });
        }
  ]
    where
      raw_home_is : (a : Ask) → a ≡ ask.Granted → raw_home a ≡ Some in_raw
      raw_home_is a is = ap raw_home is

  pub made_turn : (slots : Slots) (i : ℕ) (call : SizedCall) (locked : Bool) (got : Got) (asked : Asked) (reply : Reply) → IsStore slots old → get_or slots i None ≡ None → Says reply (answer_to got)
      → IsMade call.letter call.size call.fill locked old new got asked → IsTurn i (sized_by call locked asked) (view_of slots old) (view_of (slots_with slots i got) new) reply
  made_turn slots i call locked (gots.Block g) asked reply store free says is =
      let v = call.letter in let n = call.size in let fill = call.fill in
      let at = lies (request v n) v n fill g asked (new_leads v n old.heap.layout asked.arena asked.raw is.1.0) is.1.1 in
      let f = sized_by call locked asked in
      let made : turn_at slots old i f ≡ turn_to (Some (block_made call (fresh v n fill) at.home)) new.heap.layout ok =
      made_is slots old i call locked asked asks free is.0 ∙ room_so call asked.arena asked.raw old.heap.layout (Some at.home) new.heap.layout at.room in
      let block : block_in new.heap.places (Some g) ≡ Some (block_made call (fresh v n fill) at.home) =
      (let f : Block → Option Block = λ b. Some b in ap f (λ j. record { body = is.1.1.body j; home = at.there j; len = at.len j })) in
      sets_so slots old i f reply new (Some g) ok
      (put_blocks slots i (Some g) old.heap.places new.heap.places (lent_homes old new arenas raws sound held slots v n fill g asked store is.1.1))
      (made ∙ ap (λ (b : Option Block). turn_to b new.heap.layout ok) (sym block)) says
  made_turn slots i call locked gots.Null asked reply store free says is = elim is [
    | inl great ↦
        subst (λ (d : DomainsView). IsTurn i (sized_by call locked asked) (view_of slots old) (view_of slots d) reply) (sym great.1.0)
        (stays_so slots old i (sized_by call locked asked) reply null
        (made_is slots old i call locked asked too_great free great.0 ∙ nothing_kept null) says)
    | inr refused ↦
        let room = room_in_raw old.heap.layout call.letter call.size asked.arena asked.raw refused.1.1 (ap raw_was_asked refused.1.2) in
        let none = ap raw_home refused.1.2 in
        subst (λ (d : DomainsView). IsTurn i (sized_by call locked asked) (view_of slots old) (view_of slots d) reply) (sym refused.1.0)
        (stays_so slots old i (sized_by call locked asked) reply null
        (made_is slots old i call locked asked asks free refused.0
        ∙ room_so call asked.arena asked.raw old.heap.layout None old.heap.layout (room ∙ ap (λ (h : Option Home). record { home = h; layout = old.heap.layout }) none)
        ∙ nothing_kept null) says)
  ]
    where
      nothing_kept : (answer : PlainReply) → turn_to None old.heap.layout answer ≡ turn_to (block_in old.heap.places (get_or slots i None)) old.heap.layout answer
      nothing_kept answer = ap (λ (o : Option Guard). turn_to (block_in old.heap.places o) old.heap.layout answer) (sym free)
  made_turn slots i call locked (gots.Fault found) asked reply store free says is =
      subst (λ (d : DomainsView). IsTurn i (sized_by call locked asked) (view_of slots old) (view_of slots d) reply) (sym is.1.0)
      (stays_so slots old i (sized_by call locked asked) reply (fault found None)
      (made_is slots old i call locked asked (faults found) free is.0
      ∙ ap (λ (o : Option Guard). turn_to (block_in old.heap.places o) old.heap.layout (fault found None)) (sym free)) says)

  pub made_store : (slots : Slots) (i : ℕ) (v : Letter) (n fill : ℕ) (locked : Bool) (got : Got) (asked : Asked) → IsStore slots old → i < length slots → get_or slots i None ≡ None → IsMade v n fill locked old new got asked
      → IsStore (slots_with slots i got) new
  made_store slots i v n fill locked (gots.Block g) asked store lt free is = lent_store old new arenas raws sound held slots i v n fill g asked store lt free is.1.1
  made_store slots i v n fill locked gots.Null asked store lt free is = elim is [
    | inl great ↦ subst (IsStore slots) (sym great.1.0) store
    | inr refused ↦ subst (IsStore slots) (sym refused.1.0) store
  ]
  made_store slots i v n fill locked (gots.Fault found) asked store lt free is = subst (IsStore slots) (sym is.1.0) store

  -- ---- frees

  -- the layout, without a block that is given up
  pub left_is : (slots : Slots) (g : Guard) → IsStore slots old → IsGivenUp g old new → new.heap.layout ≡ layout_without old.heap.layout (home_at old.heap.places g.place)
  left_is slots g store gone = elim gone [
    | inl small ↦
        let long : 1 ≤ (guard_extent g).len = some_bytes g in
        let home : home_at old.heap.places g.place ≡ in_pool small.freed.pool =
        ap (λ (e : Extent). home_at old.heap.places e.place) (sym small.there)
        ∙ home_of_freed small.piece old.heap new.heap store.sound.heap_is small.freed (subst (λ (e : Extent). 1 ≤ e.len) (sym small.there) long) in
        small.freed.layout ∙ sym (ap (layout_without old.heap.layout) home)
    | inr large ↦
        ap (λ (h : HeapView). h.layout) large.heap
        ∙ sym (ap (layout_without old.heap.layout) (store.raw_homes (guard_extent g) (has_new (guard_extent g) new.raws old.raws large.back)))
  ]

  -- what a free of the slot's block comes to, by the fault of the call
  free_is : (slots : Slots) (i : ℕ) (g : Guard) (v : Letter) (locked : Bool) (o : Option Fault) → get_or slots i None ≡ Some g → call_fault v locked (finding_in v g.body) ≡ o
      → turn_at slots old i (free_turn v locked) ≡ free_unless o old.heap.layout (Some (block_of old.heap.places g))
  free_is slots i g v locked o here found =
      ap (λ (p : Option Guard). free_turn v locked old.heap.layout (block_in old.heap.places p)) here
      ∙ ap (λ (x : Option Fault). free_unless x old.heap.layout (Some (block_of old.heap.places g))) found

  pub freed_turn : (slots : Slots) (i : ℕ) (g : Guard) (v : Letter) (locked : Bool) (came : Freed) (reply : Reply) → IsStore slots old → i < length slots → get_or slots i None ≡ Some g → Says reply (answer_after came)
      → IsFreed v locked g old new came → IsTurn i (free_turn v locked) (view_of slots old) (view_of (slots_after (set slots i None) i came) new) reply
  freed_turn slots i g v locked frees.Done reply store lt here says is =
      let rest = gone_stored old new arenas raws sound held slots i g store lt here is.1 in
      let homes = gone_homes old new arenas raws sound held slots (set slots i None) g store rest (left_others slots i lt) is.1 in
      sets_so slots old i (free_turn v locked) reply new None ok (drop_blocks slots i old.heap.places new.heap.places homes)
      (free_is slots i g v locked None here is.0 ∙ ap (λ (l : Layout). turn_to None l ok) (sym (left_is slots g store is.1))) says
  freed_turn slots i g v locked (frees.Fault kept found) reply store lt here says is =
      let l = old.heap.layout in
      let back : set (set slots i None) i (Some kept) ≡ slots = ap (λ (x : Guard). set (set slots i None) i (Some x)) is.1 ∙ put_again slots i (Some g) here in
      let turn : turn_at slots old i (free_turn v locked) ≡ turn_to (block_in old.heap.places (get_or slots i None)) l (fault_in kept.body found) =
      free_is slots i g v locked (Some found) here is.0
      ∙ (λ j. turn_to (block_in old.heap.places (sym here j)) l (fault_in ((sym is.1 j).body) found)) in
      subst (λ (s : Slots). IsTurn i (free_turn v locked) (view_of slots old) (view_of s new) reply) (sym back)
      (subst (λ (d : DomainsView). IsTurn i (free_turn v locked) (view_of slots old) (view_of slots d) reply) (sym is.2)
      (stays_so slots old i (free_turn v locked) reply (fault_in kept.body found) turn says))

  pub freed_store : (slots : Slots) (i : ℕ) (g : Guard) (v : Letter) (locked : Bool) (came : Freed) → IsStore slots old → i < length slots → get_or slots i None ≡ Some g → IsFreed v locked g old new came
      → IsStore (slots_after (set slots i None) i came) new
  freed_store slots i g v locked frees.Done store lt here is = gone_store old new arenas raws sound held slots i g store lt here is.1
  freed_store slots i g v locked (frees.Fault kept found) store lt here is =
      let back : set (set slots i None) i (Some kept) ≡ slots = ap (λ (x : Guard). set (set slots i None) i (Some x)) is.1 ∙ put_again slots i (Some g) here in
      subst (λ (s : Slots). IsStore s new) (sym back) (subst (IsStore slots) (sym is.2) store)

-- ---- frees of nothing

-- the name has no block: by the fault of the call
pub nothing_turn : (slots : Slots) (d : DomainsView) (i : ℕ) (v : Letter) (locked : Bool) (o : Option Fault) (reply : Reply) → get_or slots i None ≡ None → call_fault v locked None ≡ o
    → Says reply (free_unless o d.heap.layout None).answer → IsTurn i (free_turn v locked) (view_of slots d) (view_of slots d) reply
nothing_turn slots d i v locked o reply free found says =
    stays_so slots d i (free_turn v locked) reply (free_unless o d.heap.layout None).answer
    (ap (λ (p : Option Guard). free_turn v locked d.heap.layout (block_in d.heap.places p)) free ∙ ap (λ (x : Option Fault). free_unless x d.heap.layout None) found
    ∙ whole o ∙ ap (λ (p : Option Guard). turn_to (block_in d.heap.places p) d.heap.layout (free_unless o d.heap.layout None).answer) (sym free)) says
  where
    whole : (o : Option Fault) → free_unless o d.heap.layout None ≡ turn_to None d.heap.layout (free_unless o d.heap.layout None).answer
    whole None = refl
    whole (Some found) = refl

-- ---- what is asked for

pub no_request : (l : Layout) → FitsRequest l NoRequest grant.NotAsked ask.NotAsked
no_request l = record { arena_asked = refl; raw_asked = refl; pools = tt }

-- ---- pokes and peeks

-- a peek leaves the block and the layout
pub peek_stays : (offset : ℤ) (count : ℕ) (l : Layout) (now : Option Block) → ((peek_turn offset count l now).block ≡ now) × ((peek_turn offset count l now).layout ≡ l)
peek_stays offset count l None = (refl, refl)
peek_stays offset count l (Some block) = by (reaches block.body offset count)
  where
    by : (b : Bool) → ((cond {A = Turn} b (turn_to (Some block) l (bytes (peeked block.body offset count))) (turn_to (Some block) l outside)).block ≡ Some block)
        × ((cond {A = Turn} b (turn_to (Some block) l (bytes (peeked block.body offset count))) (turn_to (Some block) l outside)).layout ≡ l)
    by true = (refl, refl)
    by false = (refl, refl)

-- a poke leaves the layout
pub poke_stays : (offset : ℤ) (new : List ℕ) (l : Layout) (now : Option Block) → (poke_turn offset new l now).layout ≡ l
poke_stays offset new l None = refl
poke_stays offset new l (Some block) = by (reaches block.body offset (length new))
  where
    by : (b : Bool) → (cond {A = Turn} b (turn_to (Some (record block { body = poked block.body offset new })) l ok) (turn_to (Some block) l outside)).layout ≡ l
    by true = refl
    by false = refl
