-- The memory operations: what malloc, calloc, realloc, free, poke and peek do to the block of one name and to the
-- layout.
use Rattle.std.specs.Prelude.{ℕ, ℤ, Bool, false, not, ◌&&◌, if◌then◌else◌, List, length, Option}
use Rattle.std.specs.Prelude.{Some, None}
use Rattle.mem_base.specs.declared.trace.Letter.{Letter}
use Rattle.mem_base.specs.declared.history.Grant.{Grant}
use Rattle.mem_base.specs.declared.history.Ask.{Ask}
use Rattle.mem_base.specs.declared.history.Ask.TheVariants.{NotAsked, Refused, Granted}
use Rattle.mem_base.specs.declared.reply.Fault.{Fault}
use Rattle.block_model.specs.Block.{Body, finding_in, fresh, peeked, poked, reaches, resized}
use Rattle.layout_model.specs.Asks.{Request}
use Rattle.layout_model.specs.Asks.Request.{FromPools, FromRaw, NoRequest}
use Rattle.layout_model.specs.Layout.{Layout}
use Rattle.layout_model.specs.Place.{Placed, place}
use Rattle.layout_model.specs.Sizes.{class_of, is_small, need}
use Rattle.layout_model.specs.Unplace.{unplace}
use Rattle.request_model.specs.Decision.{Decision, too_great, faults, asks, call_fault, decision}
use Rattle.request_model.specs.Decision.{fits_in_place, move_request, request, request_after}
use Rattle.event_model.specs.Blocks.{Home, in_pool, in_raw, Block, is_pooled, len_at}
use Rattle.event_model.specs.Replies.{PlainReply, ok, null, busy, absent, outside, bytes, fault, fault_in}

-- what a name then holds, the layout then, and the answer
pub record Turn : Type 0 where
  pub block : Option Block
  pub layout : Layout
  pub answer : PlainReply

-- the name holds this, this is the layout, and this is the answer
abbrev pub turn_to : Option Block → Layout → PlainReply → Turn
turn_to block l answer = record { block = block; layout = l; answer = answer }

-- ---- room for a block

-- where a new block lies, if there is room for it, and the layout then
pub record Room : Type 0 where
  pub home : Option Home
  pub layout : Layout

-- a raw region, where the raw source granted one
abbrev pub raw_home : Ask → Option Home
raw_home NotAsked = None
raw_home Refused = None
raw_home Granted = Some in_raw

-- the pool that was found, or else a raw region
abbrev pub pool_home : Option ℕ → Ask → Option Home
pool_home None raw = raw_home raw
pool_home (Some k) raw = Some (in_pool k)

-- the room of a small block that was placed so
abbrev pub small_room : Placed → Ask → Room
small_room placed raw = record { home = pool_home placed.pool raw; layout = placed.layout }

-- the room that a request finds, with these answers of the arena source and of the raw source
abbrev pub room_for : Layout → Request → Grant → Ask → Room
room_for l (FromPools m) arena raw =
    if is_small m
    then small_room (place l (class_of m) arena) raw
    else record { home = raw_home raw; layout = l }
room_for l (FromRaw m) arena raw = record { home = raw_home raw; layout = l }
room_for l NoRequest arena raw = record { home = None; layout = l }

-- the layout without a block that lies there
abbrev pub layout_without : Layout → Home → Layout
layout_without l (in_pool k) = unplace l k
layout_without l in_raw = l

-- ---- what a check finds

-- what the check of what a name holds finds
abbrev pub finding_of : Letter → Option Block → Option Fault
finding_of v None = None
finding_of v (Some block) = finding_in v block.body

-- ---- malloc, calloc and realloc

-- a call for a block: its domain, how many bytes of data the block is to have, what new data holds, and whether the
-- call goes on from the block that its name holds
pub record SizedCall : Type 0 where
  pub letter : Letter
  pub size : ℕ
  pub fill : ℕ
  pub goes_on : Bool

-- its fault, on what its name holds: that it lacks the lock, or else what the check finds
abbrev pub fault_of : SizedCall → Bool → Option Block → Option Fault
fault_of call locked now = call_fault call.letter locked (finding_of call.letter now)

-- what it comes to before any source is asked
abbrev pub came_to : SizedCall → Bool → Option Block → Decision
came_to call locked now = decision call.letter call.size locked (finding_of call.letter now)

-- the name holds a block, and the call does not go on from it
abbrev pub is_busy : SizedCall → Option Block → Bool
is_busy call None = false
is_busy call (Some block) = not call.goes_on

-- the block that is made there
abbrev pub block_made : SizedCall → Body → Home → Block
block_made call body home = record { body = body; home = home; len = len_at home (need call.size) }

-- a new block there, or null where there is no room for it
abbrev pub new_block : SizedCall → Option Home → Layout → Turn
new_block call None l = turn_to None l null
new_block call (Some home) l =
    turn_to (Some (block_made call (fresh call.letter call.size call.fill) home)) l ok

-- a call for a block, into a name that holds nothing, that came to this
abbrev pub new_block_turn : SizedCall → Grant → Ask → Layout → Decision → Turn
new_block_turn call arena raw l too_great = turn_to None l null
new_block_turn call arena raw l (faults found) = turn_to None l (fault found None)
new_block_turn call arena raw l asks =
    let room = room_for l (request call.letter call.size) arena raw in new_block call room.home room.layout

-- a block of a pool in which m bytes fit stays where it is
abbrev pub stays_in_place : Block → ℕ → Bool
stays_in_place block m = is_pooled block.home && fits_in_place block.len m

-- what a call asks for where its block moves
abbrev pub request_to_move : SizedCall → Block → Request
request_to_move call block = move_request (is_pooled block.home) call.letter call.size

-- what a call that goes on from a block asks for
abbrev pub change_request : SizedCall → Block → Request
change_request call block =
    if stays_in_place block (need call.size) then NoRequest else request_to_move call block

-- its data after the call
abbrev pub changed_body : SizedCall → Block → Body
changed_body call block = resized call.letter call.size call.fill block.body

-- the body that its name holds after the call, where it answers ok
abbrev pub given_body : SizedCall → Option Block → Body
given_body call None = fresh call.letter call.size call.fill
given_body call (Some block) = changed_body call block

-- the block moves there, and then the old one is given up; where there is no room for it, it stays
abbrev pub move_block : SizedCall → Block → Option Home → Layout → Turn
move_block call block None l = turn_to (Some block) l null
move_block call block (Some home) l =
    turn_to (Some (block_made call (changed_body call block) home)) (layout_without l block.home) ok

-- the block stays where it is, or moves to the room that is found for it
abbrev pub change_block : SizedCall → Grant → Ask → Layout → Block → Turn
change_block call arena raw l block =
    if stays_in_place block (need call.size)
    then turn_to (Some (record block { body = changed_body call block })) l ok
    else let room = room_for l (request_to_move call block) arena raw in move_block call block room.home room.layout

-- a call that goes on from a block and came to this
abbrev pub change_turn : SizedCall → Grant → Ask → Layout → Block → Decision → Turn
change_turn call arena raw l block too_great = turn_to (Some block) l null
change_turn call arena raw l block (faults found) = turn_to (Some block) l (fault_in block.body found)
change_turn call arena raw l block asks = change_block call arena raw l block

-- a call for a block into a name that holds this
abbrev pub sized_turn : SizedCall → Bool → Grant → Ask → Layout → Option Block → Turn
sized_turn call locked arena raw l None = new_block_turn call arena raw l (came_to call locked None)
sized_turn call locked arena raw l (Some block) =
    if call.goes_on
    then change_turn call arena raw l block (came_to call locked (Some block))
    else turn_to (Some block) l busy

-- what a call that goes on from a block asks the sources for, by what it came to
abbrev pub request_to_change : SizedCall → Block → Decision → Request
request_to_change call block too_great = NoRequest
request_to_change call block (faults found) = NoRequest
request_to_change call block asks = change_request call block

-- what a call for a block asks the sources for
abbrev pub sized_request : SizedCall → Bool → Option Block → Request
sized_request call locked None = request_after call.letter call.size (came_to call locked None)
sized_request call locked (Some block) =
    if call.goes_on then request_to_change call block (came_to call locked (Some block)) else NoRequest

-- ---- free

-- free of a name that holds this, by a call with this fault or none
abbrev pub free_unless : Option Fault → Layout → Option Block → Turn
free_unless None l None = turn_to None l ok
free_unless None l (Some block) = turn_to None (layout_without l block.home) ok
free_unless (Some found) l None = turn_to None l (fault found None)
free_unless (Some found) l (Some block) = turn_to (Some block) l (fault_in block.body found)

-- free of a name that holds this
abbrev pub free_turn : Letter → Bool → Layout → Option Block → Turn
free_turn v locked l now = free_unless (call_fault v locked (finding_of v now)) l now

-- ---- poke and peek

-- poke of a name that holds this
abbrev pub poke_turn : ℤ → List ℕ → Layout → Option Block → Turn
poke_turn offset new l None = turn_to None l absent
poke_turn offset new l (Some block) =
    if reaches block.body offset (length new)
    then turn_to (Some (record block { body = poked block.body offset new })) l ok
    else turn_to (Some block) l outside

-- peek of a name that holds this
abbrev pub peek_turn : ℤ → ℕ → Layout → Option Block → Turn
peek_turn offset count l None = turn_to None l absent
peek_turn offset count l (Some block) =
    if reaches block.body offset count
    then turn_to (Some block) l (bytes (peeked block.body offset count))
    else turn_to (Some block) l outside
