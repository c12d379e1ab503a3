-- What the memory operations do to the layout.
use Rattle.std.proofs.Common.{◌≡◌, ℕ, Bool, true, false, cond, List, length, Option, Some, None, refl}
use Rattle.mem_base.specs.declared.history.Grant.{Grant}
use Rattle.mem_base.specs.declared.history.Ask.{Ask}
use Rattle.mem_base.specs.declared.reply.Fault.{Fault}
use Rattle.block_model.specs.Block.{reaches, peeked, poked}
use Rattle.layout_model.specs.Asks.{Request}
use Rattle.layout_model.specs.Asks.Request.{FromPools, FromRaw, NoRequest}
use Rattle.layout_model.specs.Layout.{Layout}
use Rattle.layout_model.specs.Place.{place}
use Rattle.layout_model.specs.Sizes.{is_small, class_of, need}
use Rattle.layout_model.specs.Unplace.{unplace}
use Rattle.request_model.specs.Decision.{Decision, too_great, faults, asks, request, request_after}
use Rattle.event_model.specs.Blocks.{Home, in_pool, in_raw, Block}
use Rattle.event_model.specs.Memory.{Turn, turn_to, Room, raw_home, small_room, room_for, layout_without}
use Rattle.event_model.specs.Memory.{SizedCall, came_to, new_block, new_block_turn, stays_in_place}
use Rattle.event_model.specs.Memory.{request_to_move, changed_body, move_block, change_turn, sized_turn}
use Rattle.event_model.specs.Memory.{request_to_change, sized_request, free_unless, poke_turn, peek_turn}
use Rattle.event_model.specs.Replies.{PlainReply, ok, busy, outside, bytes}

-- a fact of layouts holds wherever this request leads
abbrev pub Placing : (Layout → Type 0) → Layout → Grant → Request → Type 0
Placing P l arena r = (m : ℕ) → r ≡ FromPools m → is_small m ≡ true → P (place l (class_of m) arena).layout

room_holds : (P : Layout → Type 0) (l : Layout) (r : Request) (arena : Grant) (raw : Ask) → P l → Placing P l arena r
    → P (room_for l r arena raw).layout
room_holds P l (FromPools m) arena raw here placed = by (is_small m) refl
  where
    by : (b : Bool) → is_small m ≡ b
        → P (cond {A = Room} b (small_room (place l (class_of m) arena) raw) (record { home = raw_home raw; layout = l })).layout
    by true small = placed m refl small
    by false large = here
room_holds P l (FromRaw m) arena raw here placed = here
room_holds P l NoRequest arena raw here placed = here

-- a fact of layouts stays where a block of a pool goes
abbrev pub Unplacing : (Layout → Type 0) → Type 0
Unplacing P = (l : Layout) (k : ℕ) → P l → P (unplace l k)

without_holds : (P : Layout → Type 0) (l : Layout) (home : Home) → P l → Unplacing P → P (layout_without l home)
without_holds P l (in_pool k) here unplaced = unplaced l k here
without_holds P l in_raw here unplaced = here

new_holds : (P : Layout → Type 0) (call : SizedCall) (home : Option Home) (l : Layout) → P l → P (new_block call home l).layout
new_holds P call None l here = here
new_holds P call (Some home) l here = here

decision_holds : (P : Layout → Type 0) (call : SizedCall) (arena : Grant) (raw : Ask) (l : Layout) (d : Decision)
    → P l → Placing P l arena (request_after call.letter call.size d) → P (new_block_turn call arena raw l d).layout
decision_holds P call arena raw l too_great here placed = here
decision_holds P call arena raw l (faults found) here placed = here
decision_holds P call arena raw l asks here placed =
    let room = room_for l (request call.letter call.size) arena raw in
    new_holds P call room.home room.layout (room_holds P l (request call.letter call.size) arena raw here placed)

move_holds : (P : Layout → Type 0) (call : SizedCall) (block : Block) (home : Option Home) (l : Layout) → P l
    → Unplacing P → P (move_block call block home l).layout
move_holds P call block None l here unplaced = here
move_holds P call block (Some home) l here unplaced = without_holds P l block.home here unplaced

-- a block that stays where it is, or moves
abbrev pub change_by : SizedCall → Grant → Ask → Layout → Block → Bool → Turn
change_by call arena raw l block b =
    cond b (turn_to (Some (record block { body = changed_body call block })) l ok)
    (let room = room_for l (request_to_move call block) arena raw in move_block call block room.home room.layout)

change_holds : (P : Layout → Type 0) (call : SizedCall) (arena : Grant) (raw : Ask) (l : Layout) (block : Block) (d : Decision)
    → P l → Placing P l arena (request_to_change call block d) → Unplacing P → P (change_turn call arena raw l block d).layout
change_holds P call arena raw l block too_great here placed unplaced = here
change_holds P call arena raw l block (faults found) here placed unplaced = here
change_holds P call arena raw l block asks here placed unplaced = by (stays_in_place block (need call.size)) placed
  where
    by : (b : Bool) → Placing P l arena (cond b NoRequest (request_to_move call block))
        → P (change_by call arena raw l block b).layout
    by true placed = here
    by false placed =
        let room = room_for l (request_to_move call block) arena raw in
        move_holds P call block room.home room.layout (room_holds P l (request_to_move call block) arena raw here placed) unplaced

pub sized_holds : (P : Layout → Type 0) (call : SizedCall) (locked : Bool) (arena : Grant) (raw : Ask) (l : Layout) (o : Option Block)
    → P l → Placing P l arena (sized_request call locked o) → Unplacing P → P (sized_turn call locked arena raw l o).layout
sized_holds P call locked arena raw l None here placed unplaced =
    decision_holds P call arena raw l (came_to call locked None) here placed
sized_holds P call locked arena raw l (Some block) here placed unplaced = by call.goes_on placed
  where
    by : (b : Bool) → Placing P l arena (cond b (request_to_change call block (came_to call locked (Some block))) NoRequest)
        → P (cond b (change_turn call arena raw l block (came_to call locked (Some block))) (turn_to (Some block) l busy)).layout
    by true placed = change_holds P call arena raw l block (came_to call locked (Some block)) here placed unplaced
    by false placed = here

pub unless_holds : (P : Layout → Type 0) (o : Option Fault) (l : Layout) (now : Option Block) → P l → Unplacing P
    → P (free_unless o l now).layout
unless_holds P None l None here unplaced = here
unless_holds P None l (Some block) here unplaced = without_holds P l block.home here unplaced
unless_holds P (Some found) l None here unplaced = here
unless_holds P (Some found) l (Some block) here unplaced = here

either_holds : (P : Layout → Type 0) (l : Layout) (x y : Option Block) (p q : PlainReply) (b : Bool) → P l → P (cond {A = Turn} b (turn_to x l p) (turn_to y l q)).layout
either_holds P l x y p q true here = here
either_holds P l x y p q false here = here

pub poke_holds : (P : Layout → Type 0) (offset : _) (new : List ℕ) (l : Layout) (o : Option Block) → P l
    → P (poke_turn offset new l o).layout
poke_holds P offset new l None here = here
poke_holds P offset new l (Some block) here =
    either_holds P l (Some (record block { body = poked block.body offset new })) (Some block) ok outside (reaches block.body offset (length new)) here

pub peek_holds : (P : Layout → Type 0) (offset : _) (count : ℕ) (l : Layout) (o : Option Block) → P l
    → P (peek_turn offset count l o).layout
peek_holds P offset count l None here = here
peek_holds P offset count l (Some block) here =
    either_holds P l (Some block) (Some block) (bytes (peeked block.body offset count)) outside (reaches block.body offset count) here
