-- Which turns answer null.
use Rattle.std.proofs.Common.{◌≡◌, ℕ, ◌<◌, ◌≤◌, Bool, true, false, cond, Option, Some, None, IsNone, List}
use Rattle.std.proofs.Common.{refl, sym, ap, ◌∙◌, inl, inr, ◌⊎◌, true≢false, arith}
use Rattle.std.specs.Prelude.{length, not, ◌||◌}
use Rattle.std.proofs.lemmas.Bool.Decides.{leb_tells}
use Rattle.mem_base.specs.declared.history.Grant.{Grant}
use Rattle.mem_base.specs.declared.history.Grant.TheVariants as grant
use Rattle.mem_base.specs.declared.history.Ask.{Ask}
use Rattle.mem_base.specs.declared.history.Ask.TheVariants as ask
use Rattle.mem_base.specs.declared.reply.Fault.{Fault}
use Rattle.mem_base.specs.declared.reply.Fault.TheVariants.{Unlocked, BadId, BadLead, BadTail}
use Rattle.mem_base.specs.Name.{Name}
use Rattle.mem_base.specs.declared.trace.Letter.{Letter}
use Rattle.mem_base.specs.declared.trace.Letter.TheVariants.{Raw, Mem, Obj}
use Rattle.mem_base.specs.declared.trace.Rule.{Rule}
use Rattle.block_model.specs.Block.{Body, reaches, peeked, poked}
use Rattle.layout_model.specs.Asks.{Request, FitsRequest, is_refused, raw_was_asked}
use Rattle.layout_model.specs.Asks.Request.{FromPools, FromRaw, NoRequest}
use Rattle.layout_model.specs.Layout.{Layout}
use Rattle.layout_model.specs.Place.{place}
use Rattle.layout_model.specs.Sizes.{is_small, class_of, need}
use Rattle.layout_model.proofs.CallerLemmas.{only_refusals_place_nothing, requests_fit_their_class}
use Rattle.request_model.specs.Decision.{Decision, too_great, faults, asks, move_request, request}
use Rattle.request_model.specs.Decision.{request_after, max_size, max_data}
use Rattle.request_model.proofs.CallerLemmas.{Decides, over_all, faulty, over_data, within, decides}
use Rattle.tracing_model.specs.Traces.{TraceOf}
use Rattle.tracing_model.specs.Tracing.{Tracing}
use Rattle.map_model.specs.Map.{find}
use Rattle.snapshot_model.specs.Snapshots.{PlainSnapshot}
use Rattle.event_model.specs.Blocks.{Home, Block, is_pooled}
use Rattle.event_model.specs.Lock.{acquire_turn, release_turn}
use Rattle.event_model.specs.Memory.{Turn, turn_to, Room, raw_home, pool_home, small_room, room_for}
use Rattle.event_model.specs.Memory.{finding_of, SizedCall, fault_of, came_to, is_busy, new_block}
use Rattle.event_model.specs.Memory.{new_block_turn, stays_in_place, request_to_move, move_block, change_turn}
use Rattle.event_model.specs.Memory.{sized_turn, request_to_change, sized_request, free_unless, poke_turn}
use Rattle.event_model.specs.Memory.{peek_turn}
use Rattle.event_model.specs.Replies.{PlainReply, ok, null, busy, held, not_held, outside, bytes, fault_in, is_fault}
use Rattle.event_model.specs.Snapshots.{Question, Snapshots, answer_to, changes_between, changes_in, groups_of}
use Rattle.event_model.specs.Snapshots.{keep_from, snapshot_turn, stats_in, text_in, text_of}
use Rattle.event_model.specs.State.{is_owner}
use Rattle.event_model.specs.Tracing.{mark_answer, trace_answer}
use Rattle.event_model.proofs.LayoutLaws.{change_by}

-- ---- turns that never answer null

pub acquire_null : (t : ℕ) (owner : Option ℕ) → (acquire_turn t owner).1 ≡ null → ⊥
acquire_null t owner h = by (is_owner owner t) h
  where
    by : (b : Bool) → (cond {A = Option ℕ × PlainReply} b (owner, held) (Some t, ok)).1 ≡ null → ⊥
    by true h = absurd cc
    by false h = absurd cc

pub release_null : (t : ℕ) (owner : Option ℕ) → (release_turn t owner).1 ≡ null → ⊥
release_null t owner h = by (is_owner owner t) h
  where
    by : (b : Bool) → (cond {A = Option ℕ × PlainReply} b (None, ok) (owner, not_held)).1 ≡ null → ⊥
    by true h = absurd cc
    by false h = absurd cc

-- what a call with a fault answers is a fault
pub fault_in_is : (body : Body) (found : Fault) → is_fault (fault_in body found) ≡ true
fault_in_is body Unlocked = refl
fault_in_is body (BadId found verified) = refl
fault_in_is body (BadLead k) = refl
fault_in_is body (BadTail k) = refl

pub free_null : (o : Option Fault) (l : Layout) (now : Option Block) → (free_unless o l now).answer ≡ null → ⊥
free_null None l None h = absurd cc
free_null None l (Some block) h = absurd cc
free_null (Some found) l None h = absurd cc
free_null (Some found) l (Some block) h = absurd (true≢false (sym (fault_in_is block.body found) ∙ ap is_fault h))

either_null : (l : Layout) (a b : Option Block) (p q : PlainReply) (c : Bool) → (p ≡ null → ⊥) → (q ≡ null → ⊥) → (cond {A = Turn} c (turn_to a l p) (turn_to b l q)).answer ≡ null → ⊥
either_null l a b p q true first second h = first h
either_null l a b p q false first second h = second h

pub poke_null : (offset : _) (new : List ℕ) (l : Layout) (now : Option Block) → (poke_turn offset new l now).answer ≡ null → ⊥
poke_null offset new l None h = absurd cc
poke_null offset new l (Some block) h =
    either_null l (Some (record block { body = poked block.body offset new })) (Some block) ok outside (reaches block.body offset (length new)) (λ e. absurd cc) (λ e. absurd cc) h

pub peek_null : (offset : _) (count : ℕ) (l : Layout) (now : Option Block) → (peek_turn offset count l now).answer ≡ null → ⊥
peek_null offset count l None h = absurd cc
peek_null offset count l (Some block) h =
    either_null l (Some block) (Some block) (bytes (peeked block.body offset count)) outside (reaches block.body offset count) (λ e. absurd cc) (λ e. absurd cc) h

pub mark_null : (tracing : Option Tracing) → mark_answer tracing ≡ null → ⊥
mark_null None h = absurd cc
mark_null (Some t) h = absurd cc

pub trace_null : (o : Option TraceOf) → trace_answer o ≡ null → ⊥
trace_null None h = absurd cc
trace_null (Some t) h = absurd cc

pub snapshot_null : (tracing : Option Tracing) (name : Name) (all : Snapshots) → (snapshot_turn tracing name all).1 ≡ null → ⊥
snapshot_null None name all h = absurd cc
snapshot_null (Some t) name all h = absurd cc

pub keep_null : (new : Name) (rules : List Rule) (o : Option PlainSnapshot) (all : Snapshots)
    → (keep_from new rules o all).1 ≡ null → ⊥
keep_null new rules None all h = absurd cc
keep_null new rules (Some s) all h = absurd cc

pub asked_null : (all : Snapshots) (question : Question) → answer_to all question ≡ null → ⊥
asked_null all (groups_of name key cumulative most) h = by (find all name) h
  where
    by : (o : Option PlainSnapshot) → stats_in key cumulative most o ≡ null → ⊥
    by None h = absurd cc
    by (Some s) h = absurd cc
asked_null all (changes_between new old key cumulative most) h = by (find all new) (find all old) h
  where
    by : (o p : Option PlainSnapshot) → changes_in key cumulative most o p ≡ null → ⊥
    by None p h = absurd cc
    by (Some s) None h = absurd cc
    by (Some s) (Some r) h = absurd cc
asked_null all (text_of name) h = by (find all name) h
  where
    by : (o : Option PlainSnapshot) → text_in o ≡ null → ⊥
    by None h = absurd cc
    by (Some s) h = absurd cc

-- ---- a request without room

-- a small request is of 1 to 512 bytes
pub small_is : (m : ℕ) → is_small m ≡ true → (1 ≤ m) × (m ≤ 512)
small_is m small = elim (leb_tells 1 m) [
  | inl w ↦ elim (leb_tells m 512) [
    | inl v ↦ (w.1, v.1)
    | inr v ↦ absurd (true≢false (sym (rw (w.0, v.0) at small)))
  ]
  | inr w ↦ absurd (true≢false (sym (rw w.0 at small)))
]

asked_refused : (raw : Ask) → raw_was_asked raw ≡ true → raw_home raw ≡ None → raw ≡ ask.Refused
asked_refused ask.NotAsked asked none = absurd (true≢false (sym asked))
asked_refused ask.Refused asked none = refl
asked_refused ask.Granted asked none = absurd cc

arena_refused : (arena : Grant) → is_refused arena ≡ true → arena ≡ grant.Refused
arena_refused grant.NotAsked refused = absurd (true≢false (sym refused))
arena_refused grant.Refused refused = refl
arena_refused (grant.Granted pools) refused = absurd (true≢false (sym refused))

neither_home : (o : Option ℕ) (raw : Ask) → pool_home o raw ≡ None → IsNone o × (raw_home raw ≡ None)
neither_home None raw none = (refl, none)
neither_home (Some k) raw none = absurd cc

none_home : (o : Option ℕ) (raw : Ask) → IsNone o → raw_home raw ≡ None → pool_home o raw ≡ None
none_home None raw none h = h
none_home (Some k) raw none h = absurd (true≢false none)

-- what a request of the pools leads to, by whether it is small
abbrev room_by : Layout → ℕ → Grant → Ask → Bool → Room
room_by l m arena raw b =
    cond b (small_room (place l (class_of m) arena) raw) (record { home = raw_home raw; layout = l })

-- with answers that fit, a request that finds no room was refused by the raw source
no_room_refused : (l : Layout) (r : Request) (arena : Grant) (raw : Ask) → (r ≡ NoRequest → ⊥)
    → FitsRequest l r arena raw → (room_for l r arena raw).home ≡ None → raw ≡ ask.Refused
no_room_refused l (FromPools m) arena raw some fits none = by (is_small m) refl none
  where
    by : (b : Bool) → is_small m ≡ b → (room_by l m arena raw b).home ≡ None → raw ≡ ask.Refused
    by true small none =
        let within = small_is m small in
        let neither = neither_home (place l (class_of m) arena).pool raw none in
        let law = only_refusals_place_nothing l (class_of m) arena (requests_fit_their_class l m arena raw within.0 within.1 fits) in
        asked_refused raw (fits.raw_asked ∙ ap (λ (b : Bool). not b || is_refused arena) small ∙ ap is_refused (law.0.0 neither.0)) neither.1
    by false large none = asked_refused raw (fits.raw_asked ∙ ap (λ (b : Bool). not b || is_refused arena) large) none
no_room_refused l (FromRaw m) arena raw some fits none = asked_refused raw fits.raw_asked none
no_room_refused l NoRequest arena raw some fits none = absurd (some refl)

-- with answers that fit, a request that the raw source refused finds no room
refused_no_room : (l : Layout) (r : Request) (arena : Grant) (raw : Ask) → FitsRequest l r arena raw
    → raw ≡ ask.Refused → (room_for l r arena raw).home ≡ None
refused_no_room l (FromPools m) arena raw fits refused = by (is_small m) refl
  where
    by : (b : Bool) → is_small m ≡ b → (room_by l m arena raw b).home ≡ None
    by true small =
        let within = small_is m small in
        let law = only_refusals_place_nothing l (class_of m) arena (requests_fit_their_class l m arena raw within.0 within.1 fits) in
        let no_arena = arena_refused arena (sym (ap (λ (b : Bool). not b || is_refused arena) small) ∙ sym fits.raw_asked ∙ ap raw_was_asked refused) in
        none_home (place l (class_of m) arena).pool raw (law.0.1 no_arena) (ap raw_home refused)
    by false large = ap raw_home refused
refused_no_room l (FromRaw m) arena raw fits refused = ap raw_home refused
refused_no_room l NoRequest arena raw fits refused = refl

request_asks : (v : Letter) (n : ℕ) → request v n ≡ NoRequest → ⊥
request_asks Raw n is = absurd cc
request_asks Mem n is = absurd cc
request_asks Obj n is = absurd cc

move_asks : (call : SizedCall) (block : Block) → request_to_move call block ≡ NoRequest → ⊥
move_asks call block is = by (is_pooled block.home) is
  where
    by : (b : Bool) → move_request b call.letter call.size ≡ NoRequest → ⊥
    by true is = request_asks call.letter call.size is
    by false is = absurd cc

null_no_room : (call : SizedCall) (home : Option Home) (l : Layout) → (new_block call home l).answer ≡ null → home ≡ None
null_no_room call None l h = refl
null_no_room call (Some home) l h = absurd cc

null_no_move : (call : SizedCall) (block : Block) (home : Option Home) (l : Layout)
    → (move_block call block home l).answer ≡ null → home ≡ None
null_no_move call block None l h = refl
null_no_move call block (Some home) l h = absurd cc

-- ---- why a call for a block is answered null

-- a size that is too great, or that leaves no room for the hooks' bytes where the call has no fault, or a refusal
abbrev pub IsWhy : SizedCall → Option Fault → Ask → Type 0
IsWhy call found raw = (max_size < call.size) ⊎ ((max_data < call.size) × (found ≡ None)) ⊎ (raw ≡ ask.Refused)

new_why : (call : SizedCall) (found : Option Fault) (arena : Grant) (raw : Ask) (l : Layout) (d : Decision)
    → Decides call.size found d
    → FitsRequest l (request_after call.letter call.size d) arena raw
    → (new_block_turn call arena raw l d).answer ≡ null → IsWhy call found raw
new_why call found arena raw l too_great (over_all great) fits h = inl great
new_why call found arena raw l too_great (over_data great none) fits h = inr (inl (great, none))
new_why call found arena raw l (faults _) (faulty which small some) fits h = absurd cc
new_why call found arena raw l asks (within small none) fits h =
    let room = room_for l (request call.letter call.size) arena raw in
    inr (inr (no_room_refused l (request call.letter call.size) arena raw (request_asks call.letter call.size) fits (null_no_room call room.home room.layout h)))

change_why : (call : SizedCall) (found : Option Fault) (arena : Grant) (raw : Ask) (l : Layout) (block : Block) (d : Decision)
    → Decides call.size found d
    → FitsRequest l (request_to_change call block d) arena raw → (change_turn call arena raw l block d).answer ≡ null
    → IsWhy call found raw
change_why call found arena raw l block too_great (over_all great) fits h = inl great
change_why call found arena raw l block too_great (over_data great none) fits h = inr (inl (great, none))
change_why call found arena raw l block (faults _) (faulty which small some) fits h =
    absurd (true≢false (sym (fault_in_is block.body which) ∙ ap is_fault h))
change_why call found arena raw l block asks (within small none) fits h = by (stays_in_place block (need call.size)) fits h
  where
    by : (b : Bool) → FitsRequest l (cond b NoRequest (request_to_move call block)) arena raw
        → (change_by call arena raw l block b).answer ≡ null → IsWhy call found raw
    by true fits h = absurd cc
    by false fits h =
        let room = room_for l (request_to_move call block) arena raw in
        inr (inr (no_room_refused l (request_to_move call block) arena raw (move_asks call block) fits (null_no_move call block room.home room.layout h)))

pub sized_why : (call : SizedCall) (locked : Bool) (arena : Grant) (raw : Ask) (l : Layout) (o : Option Block)
    → FitsRequest l (sized_request call locked o) arena raw
    → (sized_turn call locked arena raw l o).answer ≡ null → (is_busy call o ≡ false) × IsWhy call (fault_of call locked o) raw
sized_why call locked arena raw l None fits h =
    (refl, new_why call (fault_of call locked None) arena raw l (came_to call locked None) (decides call.letter call.size locked None) fits h)
sized_why call locked arena raw l (Some block) fits h = by call.goes_on fits h
  where
    d : Decision
    d = came_to call locked (Some block)

    by : (b : Bool) → FitsRequest l (cond b (request_to_change call block d) NoRequest) arena raw
        → (cond b (change_turn call arena raw l block d) (turn_to (Some block) l busy)).answer ≡ null
        → (not b ≡ false) × IsWhy call (fault_of call locked (Some block)) raw
    by true fits h =
        (refl, change_why call (fault_of call locked (Some block)) arena raw l block d (decides call.letter call.size locked (finding_of call.letter (Some block))) fits h)
    by false fits h = absurd cc

-- ---- the other way

-- a fault, where the size is too great or the raw source refused, has come before either
faulty_not : (call : SizedCall) (found : Option Fault) (raw : Ask) (which : Fault) → call.size ≤ max_size
    → found ≡ Some which → raw_was_asked raw ≡ false → IsWhy call found raw → ⊥
faulty_not call found raw which small some unasked why = elim why [
  | inl great ↦ absurd (omega arith)
  | inr rest ↦
      elim rest [
        | inl greater ↦ let none : None ≡ Some which = sym greater.1 ∙ some in absurd cc
        | inr refused ↦ absurd (true≢false (ap raw_was_asked (sym refused) ∙ unasked))
      ]
]

within_why : (call : SizedCall) (found : Option Fault) (raw : Ask) → call.size ≤ max_data → IsWhy call found raw
    → raw ≡ ask.Refused
within_why call found raw small why = elim why [
  | inl great ↦ absurd (omega arith)
  | inr rest ↦ elim rest [ inl greater ↦ absurd (omega (arith, greater.0)) | inr refused ↦ refused ]
]

new_null : (call : SizedCall) (found : Option Fault) (arena : Grant) (raw : Ask) (l : Layout) (d : Decision)
    → Decides call.size found d
    → FitsRequest l (request_after call.letter call.size d) arena raw → IsWhy call found raw
    → (new_block_turn call arena raw l d).answer ≡ null
new_null call found arena raw l too_great (over_all great) fits why = refl
new_null call found arena raw l too_great (over_data great none) fits why = refl
new_null call found arena raw l (faults _) (faulty which small some) fits why =
    absurd (faulty_not call found raw which small some fits.raw_asked why)
new_null call found arena raw l asks (within small none) fits why =
    let r = request call.letter call.size in
    let layout = (room_for l r arena raw).layout in
    ap (λ (home : Option Home). (new_block call home layout).answer) (refused_no_room l r arena raw fits (within_why call found raw small why))

change_null : (call : SizedCall) (found : Option Fault) (arena : Grant) (raw : Ask) (l : Layout) (block : Block) (d : Decision)
    → Decides call.size found d
    → FitsRequest l (request_to_change call block d) arena raw → IsWhy call found raw
    → (change_turn call arena raw l block d).answer ≡ null
change_null call found arena raw l block too_great (over_all great) fits why = refl
change_null call found arena raw l block too_great (over_data great none) fits why = refl
change_null call found arena raw l block (faults _) (faulty which small some) fits why =
    absurd (faulty_not call found raw which small some fits.raw_asked why)
change_null call found arena raw l block asks (within small none) fits why = by (stays_in_place block (need call.size)) fits
  where
    refused : raw ≡ ask.Refused
    refused = within_why call found raw small why

    by : (b : Bool) → FitsRequest l (cond b NoRequest (request_to_move call block)) arena raw
        → (change_by call arena raw l block b).answer ≡ null
    by true fits = absurd (true≢false (ap raw_was_asked (sym refused) ∙ fits.raw_asked))
    by false fits =
        let r = request_to_move call block in
        let layout = (room_for l r arena raw).layout in
        ap (λ (home : Option Home). (move_block call block home layout).answer) (refused_no_room l r arena raw fits refused)

pub sized_null : (call : SizedCall) (locked : Bool) (arena : Grant) (raw : Ask) (l : Layout) (o : Option Block)
    → FitsRequest l (sized_request call locked o) arena raw
    → is_busy call o ≡ false → IsWhy call (fault_of call locked o) raw → (sized_turn call locked arena raw l o).answer ≡ null
sized_null call locked arena raw l None fits idle why =
    new_null call (fault_of call locked None) arena raw l (came_to call locked None) (decides call.letter call.size locked None) fits why
sized_null call locked arena raw l (Some block) fits idle why = by call.goes_on fits idle
  where
    d : Decision
    d = came_to call locked (Some block)

    by : (b : Bool) → FitsRequest l (cond b (request_to_change call block d) NoRequest) arena raw → not b ≡ false
        → (cond b (change_turn call arena raw l block d) (turn_to (Some block) l busy)).answer ≡ null
    by true fits idle =
        change_null call (fault_of call locked (Some block)) arena raw l block d (decides call.letter call.size locked (finding_of call.letter (Some block))) fits why
    by false fits idle = absurd (true≢false idle)
