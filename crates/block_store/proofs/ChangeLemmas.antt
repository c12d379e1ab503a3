-- A block that gets another size, as a turn of its slot.
use Rattle.std.proofs.Common.{◌≡◌, ◌≢◌, ℕ, ◌+◌, ◌<◌, Bool, true, false, cond, List, [], ◌∷◌, ◌++◌, length}
use Rattle.std.proofs.Common.{get_or, set, Option, Some, None, refl, sym, ap, subst, ◌∙◌, arith, inl, inr}
use Rattle.std.proofs.Common.{length-append, true≢false}
use Rattle.std.specs.Prelude.{◌%◌, ◌&&◌}
use Rattle.std.specs.Option.{option_map}
use Rattle.std.proofs.lemmas.List.{get_or-set_same, get_or-set_other, length-set, map-set}
use Rattle.std.proofs.lemmas.Grind.{common_steps}
use Rattle.mem_base.specs.declared.history.Ask.{Ask}
use Rattle.mem_base.specs.declared.history.Ask.TheVariants as ask
use Rattle.mem_base.specs.declared.history.Grant.{Grant}
use Rattle.mem_base.specs.declared.reply.Fault.{Fault}
use Rattle.mem_base.specs.declared.reply.Reply.{Reply}
use Rattle.mem_base.specs.declared.trace.Letter.{Letter}
use Rattle.block_model.specs.Block.{body_of, finding_in, image_of, new_byte, resized}
use Rattle.extents.specs.Extent.{Extent}
use Rattle.extents.specs.Sums.{Inserted}
use Rattle.debug_guard.specs.Guard.{Guard, guard_extent, piece_of}
use Rattle.layout_model.specs.Asks.{FitsRequest, Request, raw_was_asked}
use Rattle.layout_model.specs.Asks.Request.{NoRequest}
use Rattle.layout_model.specs.Layout.{Layout}
use Rattle.layout_model.specs.Place.{place}
use Rattle.layout_model.specs.Sizes.{need}
use Rattle.request_model.specs.Decision.{Decision, too_great, faults, asks, decision, fits_in_place, move_request}
use Rattle.event_model.specs.Blocks.{Home, Block, is_pooled}
use Rattle.event_model.specs.Memory.{Room, SizedCall, Turn, block_made, change_turn, changed_body}
use Rattle.event_model.specs.Deeds.{realloc_call}
use Rattle.event_model.specs.Memory.{layout_without, move_block, raw_home, request_to_move}
use Rattle.event_model.specs.Memory.{request_to_change, room_for, sized_request, stays_in_place, turn_to}
use Rattle.event_model.specs.Replies.{PlainReply, null, ok, fault_in}
use Rattle.domain_api.specs.Domains.{IsMoved, IsReallocated, IsRefused, IsResized, MayStay, MustMove, not_asked}
use Rattle.domain_api.specs.Held.{AreHeld, AreSound, DomainsView}
use Rattle.domain_api.specs.declared.answers.Asked.{Asked}
use Rattle.domain_api.specs.declared.answers.Moved.{Moved}
use Rattle.domain_api.specs.declared.answers.Moved.TheVariants as moves
use Rattle.block_store.specs.Homes.{home_at}
use Rattle.block_store.specs.Replies.{answer_of, block_left}
use Rattle.block_store.specs.Slots.{IsStore, IsStored, block_in, block_of, blocks_of, loans_of}
use Rattle.block_store.specs.Store.{IsTurn, block_at, sized_by, view_of}
use Rattle.block_store.proofs.HomeLemmas.{SameHomes, its_pool, loans_apart}
use Rattle.block_store.proofs.LoanLemmas.{gone_homes, gone_is, gone_stored, kept_store, left_others}
use Rattle.block_store.proofs.LoanLemmas.{lent_homes, lent_is, lent_store, put_blocks, store_is}
use Rattle.block_store.proofs.StoredLemmas.{at_front, at_last, length-image_of, some_bytes, stored_moved}
use Rattle.block_store.proofs.StoredLemmas.{stored_push_none}
use Rattle.block_store.proofs.TurnLemmas.{Leads, Says, at_is, left_is, length-fresh, lies, new_leads}
use Rattle.block_store.proofs.TurnLemmas.{no_request, put_again, set_twice, sets_so, stays_so, turn_at}
use Rattle.block_store.proofs.Types.{Arenas, Raws, Slots}

abbrev some_extent : Extent → Option Extent
some_extent e = Some e

-- ---- what a realloc comes to

module _ (slots : Slots) (d : DomainsView) (i : ℕ) (g : Guard) (v : Letter) (n : ℕ) (locked : Bool) (asked : Asked) (here : get_or slots i None ≡ Some g) where
  abbrev call : SizedCall
  call = realloc_call v n

  abbrev was : Block
  was = block_of d.heap.places g

  -- by what the call comes to
  changed_is : (x : Decision) → decision v n locked (finding_in v g.body) ≡ x → turn_at slots d i (sized_by call locked asked) ≡ change_turn call asked.arena asked.raw d.heap.layout was x
  changed_is x is =
      ap (λ (o : Option Guard). sized_by call locked asked d.heap.layout (block_in d.heap.places o)) here ∙ ap (change_turn call asked.arena asked.raw d.heap.layout was) is

  -- where it may ask, by whether the block stays where it is
  abbrev either : Bool → Turn
  either b =
      cond b (turn_to (Some (record was { body = changed_body call was })) d.heap.layout ok)
      (let room = room_for d.heap.layout (request_to_move call was) asked.arena asked.raw in move_block call was room.home room.layout)

  placed_is : (b : Bool) → decision v n locked (finding_in v g.body) ≡ asks → stays_in_place was (need n) ≡ b → turn_at slots d i (sized_by call locked asked) ≡ either b
  placed_is b is stays = changed_is asks is ∙ ap either stays

  -- where it moves, by the room that there is
  moved_is : (r : Request) (home : Option Home) (later : Layout) → decision v n locked (finding_in v g.body) ≡ asks → stays_in_place was (need n) ≡ false → r ≡ request_to_move call was
      → room_for d.heap.layout r asked.arena asked.raw ≡ record { home = home; layout = later } → turn_at slots d i (sized_by call locked asked) ≡ move_block call was home later
  moved_is r home later is stays same found =
      placed_is false is stays ∙ ap (λ (room : Room). move_block call was room.home room.layout) (ap (λ (q : Request). room_for d.heap.layout q asked.arena asked.raw) (sym same) ∙ found)

  -- the slot's block is as it was
  kept_is : (answer : PlainReply) → turn_to (Some was) d.heap.layout answer ≡ turn_to (block_in d.heap.places (get_or slots i None)) d.heap.layout answer
  kept_is answer = ap (λ (o : Option Guard). turn_to (block_in d.heap.places o) d.heap.layout answer) (sym here)

-- ---- a block of a pool, or of a raw region

-- the block does not stay where it is, and asks for this, as a block of a pool or of a raw region
record Moves (v : Letter) (n : ℕ) (was : Block) (r : Request) : Type 0 where
  pub pooled : Bool
  pub request : r ≡ move_request pooled v n
  pub stays : stays_in_place was (need n) ≡ false
  pub same : r ≡ request_to_move (realloc_call v n) was

module _ (slots : Slots) (d : DomainsView) (g : Guard) (store : IsStore slots d) where
  -- by whether its memory fits
  abbrev place_by : ℕ → Home → Bool
  place_by n home = is_pooled home && fits_in_place (guard_extent g).len (need n)

  may_stay : (n : ℕ) → MayStay n g d → stays_in_place (block_of d.heap.places g) (need n) ≡ true
  may_stay n may = ap (place_by n) (its_pool d.heap (guard_extent g) store.sound.heap_is may.pooled (some_bytes g)).home ∙ may.fits

  must_move : (v : Letter) (n : ℕ) (r : Request) → MustMove v n g d r → Moves v n (block_of d.heap.places g) r
  must_move v n r must = elim must [
    | inl pooled ↦
        let home = (its_pool d.heap (guard_extent g) store.sound.heap_is pooled.0 (some_bytes g)).home in
        record { pooled = true; request = pooled.2; stays = ap (place_by n) home ∙ pooled.1; same = pooled.2 ∙ ap (λ (h : Home). move_request (is_pooled h) v n) (sym home) }
    | inr raw ↦
        let home = store.raw_homes (guard_extent g) raw.0 in
        record { pooled = false; request = raw.1; stays = ap (place_by n) home; same = raw.1 ∙ ap (λ (h : Home). move_request (is_pooled h) v n) (sym home) }
  ]

-- what such a request leads to
move_leads : (pooled : Bool) (v : Letter) (n : ℕ) (l : Layout) (arena : Grant) (raw : Ask) → FitsRequest l (move_request pooled v n) arena raw → Leads (move_request pooled v n) n l arena raw
move_leads true v n l arena raw fits = new_leads v n l arena raw fits
move_leads false v n l arena raw fits = record {
  in_a_pool = λ k quiet gave. absurd (true≢false (sym fits.raw_asked ∙ quiet));
  in_a_region = λ asked. refl;
}

moves_leads : (v : Letter) (n : ℕ) (was : Block) (r : Request) (l : Layout) (arena : Grant) (raw : Ask) → Moves v n was r → FitsRequest l r arena raw → Leads r n l arena raw
moves_leads v n was r l arena raw moves fits =
    subst (λ (q : Request). Leads q n l arena raw) (sym moves.request)
    (move_leads moves.pooled v n l arena raw (subst (λ (q : Request). FitsRequest l q arena raw) moves.request fits))

-- ---- a block that moved

beyond : (slots : Slots) → get_or slots (length slots) None ≡ None
beyond [] = refl
beyond (s ∷ ss) = beyond ss

length-resized : (v : Letter) (n b : ℕ) (body : List ℕ) → length (resized v n b body) ≡ n + 16
unfolding body_of
length-resized v n b body = grind (arith, common_steps)

module _ (slots : Slots) (old new : DomainsView) (arenas : Arenas) (raws : Raws) (sound : AreSound new.heap new.raws) (held : AreHeld new arenas raws) (i : ℕ) (g : Guard) (v : Letter) (n : ℕ)
    (asked : Asked) (is : Guard) (store : IsStore slots old) (lt : i < length slots) (here : get_or slots i None ≡ Some g) (m : IsMoved v n g is asked old new) where
  abbrev mid : DomainsView
  mid = m.between

  abbrev mid_arenas : Arenas
  mid_arenas = m.held.0

  abbrev mid_raws : Raws
  mid_raws = m.held.1

  abbrev rest : Slots
  rest = set slots i None

  -- the slots with one more, where the new block stands until the old one has gone
  abbrev longer : Slots
  longer = slots ++ None ∷ []

  abbrev last : ℕ
  last = length slots

  abbrev both : Slots
  both = set longer last (Some m.empty)

  last_within : last < length longer
  last_within = omega (arith, length-append slots (no_guard ∷ []))
    where
      no_guard : Option Guard
      no_guard = None

  longer_store : IsStore longer old
  longer_store = record { stored = stored_push_none slots (loans_of old) store.stored; sound = store.sound; raw_homes = store.raw_homes }

  both_store : IsStore both mid
  both_store = lent_store old mid mid_arenas mid_raws m.sound m.held.2 longer last v n new_byte m.empty asked longer_store last_within (at_last slots None) m.lent

  longer_homes : SameHomes longer old.heap.places mid.heap.places
  longer_homes = lent_homes old mid mid_arenas mid_raws m.sound m.held.2 longer v n new_byte m.empty asked longer_store m.lent

  -- what a slot has, it has in the longer list
  in_longer : (j : ℕ) (x : Guard) → get_or slots j None ≡ Some x → get_or longer j None ≡ Some x
  in_longer j x at = at_front slots None j x at

  not_last : (j : ℕ) (x : Guard) → get_or slots j None ≡ Some x → j ≢ last
  not_last j x at = λ same.
      let none : None ≡ Some x = sym (beyond slots) ∙ ap (λ (k : ℕ). get_or slots k None) (sym same) ∙ at in
      absurd cc

  in_both : (j : ℕ) (x : Guard) → get_or slots j None ≡ Some x → get_or both j None ≡ Some x
  in_both j x at = get_or-set_other longer last j (Some m.empty) None (not_last j x at) ∙ in_longer j x at

  within_both : i < length both
  within_both = omega (arith, lt, length-set longer last (Some m.empty), last_within)

  left_stored : IsStored (set both i None) (loans_of new)
  left_stored = gone_stored mid new arenas raws sound held both i g both_store within_both (in_both i g here) m.gone

  left_homes : SameHomes (set both i None) mid.heap.places new.heap.places
  left_homes = gone_homes mid new arenas raws sound held both (set both i None) g both_store left_stored (left_others both i within_both) m.gone

  not_here : (j : ℕ) (x : Guard) → get_or rest j None ≡ Some x → j ≢ i
  not_here j x at = λ same.
      let none : None ≡ Some x = sym (get_or-set_same slots i None None lt) ∙ ap (λ (k : ℕ). get_or rest k None) (sym same) ∙ at in
      absurd cc

  rest_homes : SameHomes rest old.heap.places new.heap.places
  rest_homes j x at =
      let was = left_others slots i lt j x at in
      left_homes j x (get_or-set_other both i j None None (not_here j x at) ∙ in_both j x was) ∙ longer_homes j x (in_longer j x was)

  new_home : home_at new.heap.places m.empty.place ≡ home_at mid.heap.places m.empty.place
  new_home =
      left_homes last m.empty
      (get_or-set_other both i last None None (λ same. not_last i g here (sym same)) ∙ get_or-set_same longer last (Some m.empty) None last_within)

  -- ---- the block

  abbrev moved : Guard
  moved = record m.empty { body = resized v n new_byte g.body }

  moved_len : length (piece_of moved).bytes ≡ length (piece_of m.empty).bytes
  moved_len = omega (
    arith,
    length-append (image_of moved.body) m.empty.rest,
    length-append (image_of m.empty.body) m.empty.rest,
    length-image_of moved.body,
    length-image_of m.empty.body,
    ap length m.lent.body,
    length-fresh v n new_byte,
    length-resized v n new_byte g.body,
  )

  moved_extent : guard_extent is ≡ guard_extent m.empty
  moved_extent = ap guard_extent m.carried ∙ (λ j. record { place = m.empty.place; len = moved_len j; maker = m.empty.maker })

  pub moved_store : IsStore (set rest i (Some is)) new
  moved_store =
      let added = subst (λ (e : Extent). Inserted e (loans_of old) (loans_of mid)) (sym moved_extent) (lent_is v n new_byte m.empty asked old mid m.lent) in
      let aligned = ap (λ (x : Guard). x.place % 16) m.carried ∙ m.lent.aligned in
      store_is (set rest i (Some is)) new arenas raws
      (stored_moved slots (loans_of old) (loans_of mid) (loans_of new) i g is store.stored lt here added (loans_apart mid mid_arenas mid_raws m.sound m.held.2)
      (gone_is mid new arenas raws sound held g m.gone) (loans_apart new arenas raws sound held) aligned)
      sound held

  moved_blocks : blocks_of new.heap.places (set slots i (Some is)) ≡ set (blocks_of old.heap.places slots) i (block_in new.heap.places (Some is))
  moved_blocks =
      ap (blocks_of new.heap.places) (sym (set_twice slots i None (Some is)))
      ∙ put_blocks rest i (Some is) old.heap.places new.heap.places rest_homes
      ∙ ap (λ (l : List (Option Block)). set l i (block_in new.heap.places (Some is))) (map-set (block_in old.heap.places) slots i None)
      ∙ set_twice (blocks_of old.heap.places slots) i None (block_in new.heap.places (Some is))

  pub moved_turn : (locked : Bool) (reply : Reply) → decision v n locked (finding_in v g.body) ≡ asks → Says reply ok
      → IsTurn i (sized_by (realloc_call v n) locked asked) (view_of slots old) (view_of (set slots i (Some is)) new) reply
  moved_turn locked reply decided says =
      let was = block_of old.heap.places g in
      let moves = must_move slots old g store v n m.request m.must in
      let at = lies old mid mid_arenas mid_raws m.sound m.held.2 m.request v n new_byte m.empty asked
      (moves_leads v n was m.request old.heap.layout asked.arena asked.raw moves m.fits) m.lent in
      let there : block_in new.heap.places (Some moved) ≡ Some (block_made (realloc_call v n) (changed_body (realloc_call v n) was) at.home) =
      (let f : Block → Option Block = λ b. Some b in
      ap f (λ j. record { body = moved.body; home = (new_home ∙ at.there) j; len = (moved_len ∙ at.len) j })) in
      let block = ap (λ (x : Guard). block_in new.heap.places (Some x)) m.carried ∙ there in
      let layout : new.heap.layout ≡ layout_without mid.heap.layout was.home =
      left_is mid new arenas raws sound held both g both_store m.gone ∙ ap (layout_without mid.heap.layout) (longer_homes i g (in_longer i g here)) in
      sets_so slots old i (sized_by (realloc_call v n) locked asked) reply new (Some is) ok moved_blocks
      (moved_is slots old i g v n locked asked here m.request (Some at.home) mid.heap.layout decided moves.stays moves.same at.room
      ∙ (λ j. turn_to (sym block j) (sym layout j) ok)) says

-- ---- all that a realloc comes to

module _ (slots : Slots) (old new : DomainsView) (arenas : Arenas) (raws : Raws) (sound : AreSound new.heap new.raws) (held : AreHeld new arenas raws) (i : ℕ) (g : Guard) (v : Letter) (n : ℕ)
    (locked : Bool) (asked : Asked) (store : IsStore slots old) (lt : i < length slots) (here : get_or slots i None ≡ Some g) where
  abbrev f : Layout → Option Block → Turn
  f = sized_by (realloc_call v n) locked asked

  abbrev now : Block
  now = block_of old.heap.places g

  -- the slots once the block is back
  abbrev slots_then : Guard → Slots
  slots_then kept = set (set slots i None) i (Some kept)

  back : (kept : Guard) → kept ≡ g → slots_then kept ≡ slots
  back kept same = ap slots_then same ∙ put_again slots i (Some g) here

  -- nothing has changed
  abbrev Turned : Guard → DomainsView → Reply → Type 0
  Turned kept d reply = IsTurn i f (view_of slots old) (view_of (slots_then kept) d) reply

  as_before : (kept : Guard) (reply : Reply) (answer : PlainReply) → kept ≡ g → new ≡ old → turn_at slots old i f ≡ turn_to (Some now) old.heap.layout answer → Says reply answer → Turned kept new reply
  as_before kept reply answer same idle turn says =
      subst (λ (d : DomainsView). Turned kept d reply) (sym idle)
      (subst (λ (s : Slots). IsTurn i f (view_of slots old) (view_of s old) reply) (sym (back kept same))
      (stays_so slots old i f reply answer (turn ∙ kept_is slots old i g v n locked asked here answer) says))

  resized_turn : (is : Guard) (reply : Reply) → decision v n locked (finding_in v g.body) ≡ asks → MayStay n g old → IsResized v n g is → new ≡ old → Says reply ok → Turned is new reply
  resized_turn is reply decided may got idle says =
      let block : block_in old.heap.places (Some is) ≡ Some (record now { body = changed_body (realloc_call v n) now }) =
      (let f : Block → Option Block = λ b. Some b in
      ap f (λ j. record { body = got.body j; home = home_at old.heap.places (got.same.0 j); len = (got.extent j).len })) in
      subst (λ (d : DomainsView). Turned is d reply) (sym idle)
      (subst (λ (s : Slots). IsTurn i f (view_of slots old) (view_of s old) reply) (sym (set_twice slots i None (Some is)))
      (sets_so slots old i f reply old (Some is) ok (put_blocks slots i (Some is) old.heap.places old.heap.places (λ j h at. refl))
      (placed_is slots old i g v n locked asked here true decided (may_stay slots old g store n may) ∙ (λ j. turn_to (sym block j) old.heap.layout ok)) says))

  refused_turn : (kept : Guard) (reply : Reply) → decision v n locked (finding_in v g.body) ≡ asks → kept ≡ g → IsRefused v n g asked old new → Says reply null → Turned kept new reply
  refused_turn kept reply decided same r says =
      let moves = must_move slots old g store v n r.request r.must in
      let leads = moves_leads v n now r.request old.heap.layout asked.arena asked.raw moves r.fits in
      let room = leads.in_a_region (ap raw_was_asked r.refused) ∙ ap (λ (h : Option Home). record { home = h; layout = old.heap.layout }) (ap raw_home r.refused) in
      as_before kept reply null same r.same (moved_is slots old i g v n locked asked here r.request None old.heap.layout decided moves.stays moves.same room) says

  pub changed_turn : (came : Moved) (reply : Reply) → Says reply (answer_of came) → IsReallocated v n locked g old new came asked → Turned (block_left came) new reply
  changed_turn (moves.Block is) reply says made = elim made.1 [
    | inl stays ↦ resized_turn is reply made.0 stays.0 stays.1 stays.2.0 says
    | inr m ↦
        subst (λ (s : Slots). IsTurn i f (view_of slots old) (view_of s new) reply) (sym (set_twice slots i None (Some is)))
        (moved_turn slots old new arenas raws sound held i g v n asked is store lt here m locked reply made.0 says)
  ]
  changed_turn (moves.Null kept) reply says made = elim made [
    | inl great ↦ as_before kept reply null great.1 great.2.0 (changed_is slots old i g v n locked asked here too_great great.0) says
    | inr tried ↦ refused_turn kept reply tried.0 tried.1.0 tried.1.1 says
  ]
  changed_turn (moves.Fault kept found) reply says made =
      as_before kept reply (fault_in kept.body found) made.1 made.2.0
      (changed_is slots old i g v n locked asked here (faults found) made.0 ∙ ap (λ (x : Guard). turn_to (Some now) old.heap.layout (fault_in x.body found)) (sym made.1)) says

  pub changed_store : (came : Moved) → IsReallocated v n locked g old new came asked → IsStore (slots_then (block_left came)) new
  changed_store (moves.Block is) made = elim made.1 [
    | inl stays ↦
        subst (λ (s : Slots). IsStore s new) (sym (set_twice slots i None (Some is)))
        (subst (IsStore (set slots i (Some is))) (sym stays.2.0)
        (kept_store slots old i (Some is) store lt (ap (λ (e : Extent). some_extent e) stays.1.extent ∙ ap (option_map guard_extent) (sym here))))
    | inr m ↦ moved_store slots old new arenas raws sound held i g v n asked is store lt here m
  ]
  changed_store (moves.Null kept) made = elim made [
    | inl great ↦ subst (λ (s : Slots). IsStore s new) (sym (back kept great.1)) (subst (IsStore slots) (sym great.2.0) store)
    | inr tried ↦ subst (λ (s : Slots). IsStore s new) (sym (back kept tried.1.0)) (subst (IsStore slots) (sym tried.1.1.same) store)
  ]
  changed_store (moves.Fault kept found) made = subst (λ (s : Slots). IsStore s new) (sym (back kept made.1)) (subst (IsStore slots) (sym made.2.0) store)

  -- ---- what it asked for

  asks_for : (x : Decision) → decision v n locked (finding_in v g.body) ≡ x → FitsRequest old.heap.layout (request_to_change (realloc_call v n) now x) asked.arena asked.raw
      → FitsRequest old.heap.layout (sized_request (realloc_call v n) locked (block_at (view_of slots old) i)) asked.arena asked.raw
  asks_for x is fits =
      subst (λ (o : Option Block). FitsRequest old.heap.layout (sized_request (realloc_call v n) locked o) asked.arena asked.raw) (sym (at_is slots old i ∙ ap (block_in old.heap.places) here))
      (subst (λ (y : Decision). FitsRequest old.heap.layout (request_to_change (realloc_call v n) now y) asked.arena asked.raw) (sym is) fits)

  -- where the call may ask, by whether the block stays where it is
  placed_asks : (b : Bool) → decision v n locked (finding_in v g.body) ≡ asks → stays_in_place now (need n) ≡ b
      → FitsRequest old.heap.layout (cond b NoRequest (request_to_move (realloc_call v n) now)) asked.arena asked.raw
      → FitsRequest old.heap.layout (sized_request (realloc_call v n) locked (block_at (view_of slots old) i)) asked.arena asked.raw
  placed_asks b is stays fits =
      asks_for asks is (subst (λ (c : Bool). FitsRequest old.heap.layout (cond c NoRequest (request_to_move (realloc_call v n) now)) asked.arena asked.raw) (sym stays) fits)

  moved_asks : (r : Request) → decision v n locked (finding_in v g.body) ≡ asks → MustMove v n g old r → FitsRequest old.heap.layout r asked.arena asked.raw
      → FitsRequest old.heap.layout (sized_request (realloc_call v n) locked (block_at (view_of slots old) i)) asked.arena asked.raw
  moved_asks r is must fits =
      let moves = must_move slots old g store v n r must in
      placed_asks false is moves.stays (subst (λ (q : Request). FitsRequest old.heap.layout q asked.arena asked.raw) moves.same fits)

  nothing_asked : asked ≡ not_asked → FitsRequest old.heap.layout NoRequest asked.arena asked.raw
  nothing_asked none = subst (λ (a : Asked). FitsRequest old.heap.layout NoRequest a.arena a.raw) (sym none) (no_request old.heap.layout)

  pub changed_fits : (came : Moved) → IsReallocated v n locked g old new came asked
      → FitsRequest old.heap.layout (sized_request (realloc_call v n) locked (block_at (view_of slots old) i)) asked.arena asked.raw
  changed_fits (moves.Block is) made = elim made.1 [
    | inl stays ↦ placed_asks true made.0 (may_stay slots old g store n stays.0) (nothing_asked stays.2.1)
    | inr m ↦ moved_asks m.request made.0 m.must m.fits
  ]
  changed_fits (moves.Null kept) made = elim made [
    | inl great ↦ asks_for too_great great.0 (nothing_asked great.2.1)
    | inr tried ↦ moved_asks tried.1.1.request tried.0 tried.1.1.must tried.1.1.fits
  ]
  changed_fits (moves.Fault kept found) made = asks_for (faults found) made.0 (nothing_asked made.2.1)
