-- What a name holds after a memory operation: what it held where the answer is anything but ok, and else what the call
-- says.
use Rattle.std.proofs.Common.{◌≡◌, ◌≢◌, ℕ, ℤ, Bool, true, false, cond, List, length, Option, Some, None, refl}
use Rattle.std.proofs.Common.{sym, ap, ◌∙◌, true≢false}
use Rattle.mem_base.specs.declared.history.Grant.{Grant}
use Rattle.mem_base.specs.declared.history.Ask.{Ask}
use Rattle.mem_base.specs.declared.reply.Fault.{Fault}
use Rattle.block_model.specs.Block.{Body, fresh, reaches, peeked, poked}
use Rattle.layout_model.specs.Layout.{Layout}
use Rattle.layout_model.specs.Sizes.{need}
use Rattle.request_model.specs.Decision.{Decision, too_great, faults, asks, request}
use Rattle.event_model.specs.Blocks.{Home, Block}
use Rattle.event_model.specs.Memory.{Turn, turn_to, room_for, SizedCall, came_to, block_made, new_block}
use Rattle.event_model.specs.Memory.{new_block_turn, stays_in_place, request_to_move, changed_body, given_body}
use Rattle.event_model.specs.Memory.{move_block, change_turn, sized_turn, free_unless, poke_turn, peek_turn}
use Rattle.event_model.specs.Replies.{ok, busy, outside, bytes, is_fault}
use Rattle.event_model.proofs.LayoutLaws.{change_by}
use Rattle.event_model.proofs.NullLaws.{fault_in_is}

-- ---- where the answer is anything but ok

new_keeps : (call : SizedCall) (home : Option Home) (l : Layout) → (new_block call home l).answer ≢ ok
    → (new_block call home l).block ≡ None
new_keeps call None l ne = refl
new_keeps call (Some home) l ne = absurd (ne refl)

decision_keeps : (call : SizedCall) (arena : Grant) (raw : Ask) (l : Layout) (d : Decision)
    → (new_block_turn call arena raw l d).answer ≢ ok → (new_block_turn call arena raw l d).block ≡ None
decision_keeps call arena raw l too_great ne = refl
decision_keeps call arena raw l (faults found) ne = refl
decision_keeps call arena raw l asks ne =
    let room = room_for l (request call.letter call.size) arena raw in
    new_keeps call room.home room.layout ne

move_keeps : (call : SizedCall) (block : Block) (home : Option Home) (l : Layout)
    → (move_block call block home l).answer ≢ ok → (move_block call block home l).block ≡ Some block
move_keeps call block None l ne = refl
move_keeps call block (Some home) l ne = absurd (ne refl)

change_keeps : (call : SizedCall) (arena : Grant) (raw : Ask) (l : Layout) (block : Block) (d : Decision)
    → (change_turn call arena raw l block d).answer ≢ ok → (change_turn call arena raw l block d).block ≡ Some block
change_keeps call arena raw l block too_great ne = refl
change_keeps call arena raw l block (faults found) ne = refl
change_keeps call arena raw l block asks ne = by (stays_in_place block (need call.size)) ne
  where
    by : (b : Bool) → (change_by call arena raw l block b).answer ≢ ok → (change_by call arena raw l block b).block ≡ Some block
    by true ne = absurd (ne refl)
    by false ne =
        let room = room_for l (request_to_move call block) arena raw in
        move_keeps call block room.home room.layout ne

pub sized_keeps : (call : SizedCall) (locked : Bool) (arena : Grant) (raw : Ask) (l : Layout) (now : Option Block)
    → (sized_turn call locked arena raw l now).answer ≢ ok → (sized_turn call locked arena raw l now).block ≡ now
sized_keeps call locked arena raw l None ne = decision_keeps call arena raw l (came_to call locked None) ne
sized_keeps call locked arena raw l (Some block) ne = by call.goes_on ne
  where
    changed : Turn
    changed = change_turn call arena raw l block (came_to call locked (Some block))

    by : (b : Bool) → (cond b changed (turn_to (Some block) l busy)).answer ≢ ok
        → (cond b changed (turn_to (Some block) l busy)).block ≡ Some block
    by true ne = change_keeps call arena raw l block (came_to call locked (Some block)) ne
    by false ne = refl

pub free_keeps : (o : Option Fault) (l : Layout) (now : Option Block) → (free_unless o l now).answer ≢ ok
    → (free_unless o l now).block ≡ now
free_keeps None l None ne = refl
free_keeps None l (Some block) ne = absurd (ne refl)
free_keeps (Some found) l None ne = refl
free_keeps (Some found) l (Some block) ne = refl

pub poke_keeps : (offset : ℤ) (new : List ℕ) (l : Layout) (now : Option Block)
    → (poke_turn offset new l now).answer ≢ ok → (poke_turn offset new l now).block ≡ now
poke_keeps offset new l None ne = refl
poke_keeps offset new l (Some block) ne = by (reaches block.body offset (length new)) ne
  where
    done : Turn
    done = turn_to (Some (record block { body = poked block.body offset new })) l ok

    by : (b : Bool) → (cond b done (turn_to (Some block) l outside)).answer ≢ ok
        → (cond b done (turn_to (Some block) l outside)).block ≡ Some block
    by true ne = absurd (ne refl)
    by false ne = refl

pub peek_keeps : (offset : ℤ) (count : ℕ) (l : Layout) (now : Option Block) → (peek_turn offset count l now).block ≡ now
peek_keeps offset count l None = refl
peek_keeps offset count l (Some block) = by (reaches block.body offset count)
  where
    by : (b : Bool) → (cond {A = Turn} b (turn_to (Some block) l (bytes (peeked block.body offset count))) (turn_to (Some block) l outside)).block ≡ Some block
    by true = refl
    by false = refl

-- ---- where the answer is ok

-- a block with this body is held
abbrev pub HoldsBody : Body → Option Block → Type 0
HoldsBody body o = (block : Block) × (o ≡ Some block) × (block.body ≡ body)

new_gives : (call : SizedCall) (home : Option Home) (l : Layout) → (new_block call home l).answer ≡ ok
    → HoldsBody (fresh call.letter call.size call.fill) (new_block call home l).block
new_gives call None l answer = absurd cc
new_gives call (Some home) l answer = (block_made call (fresh call.letter call.size call.fill) home, refl, refl)

decision_gives : (call : SizedCall) (arena : Grant) (raw : Ask) (l : Layout) (d : Decision)
    → (new_block_turn call arena raw l d).answer ≡ ok
    → HoldsBody (fresh call.letter call.size call.fill) (new_block_turn call arena raw l d).block
decision_gives call arena raw l too_great answer = absurd cc
decision_gives call arena raw l (faults found) answer = absurd cc
decision_gives call arena raw l asks answer =
    let room = room_for l (request call.letter call.size) arena raw in
    new_gives call room.home room.layout answer

move_gives : (call : SizedCall) (block : Block) (home : Option Home) (l : Layout)
    → (move_block call block home l).answer ≡ ok
    → HoldsBody (changed_body call block) (move_block call block home l).block
move_gives call block None l answer = absurd cc
move_gives call block (Some home) l answer = (block_made call (changed_body call block) home, refl, refl)

change_gives : (call : SizedCall) (arena : Grant) (raw : Ask) (l : Layout) (block : Block) (d : Decision)
    → (change_turn call arena raw l block d).answer ≡ ok
    → HoldsBody (changed_body call block) (change_turn call arena raw l block d).block
change_gives call arena raw l block too_great answer = absurd cc
change_gives call arena raw l block (faults found) answer =
    absurd (true≢false (sym (fault_in_is block.body found) ∙ ap is_fault answer))
change_gives call arena raw l block asks answer = by (stays_in_place block (need call.size)) answer
  where
    by : (b : Bool) → (change_by call arena raw l block b).answer ≡ ok
        → HoldsBody (changed_body call block) (change_by call arena raw l block b).block
    by true answer = (record block { body = changed_body call block }, refl, refl)
    by false answer =
        let room = room_for l (request_to_move call block) arena raw in
        move_gives call block room.home room.layout answer

pub sized_gives : (call : SizedCall) (locked : Bool) (arena : Grant) (raw : Ask) (l : Layout) (now : Option Block)
    → (sized_turn call locked arena raw l now).answer ≡ ok
    → HoldsBody (given_body call now) (sized_turn call locked arena raw l now).block
sized_gives call locked arena raw l None answer = decision_gives call arena raw l (came_to call locked None) answer
sized_gives call locked arena raw l (Some block) answer = by call.goes_on answer
  where
    changed : Turn
    changed = change_turn call arena raw l block (came_to call locked (Some block))

    by : (b : Bool) → (cond b changed (turn_to (Some block) l busy)).answer ≡ ok
        → HoldsBody (changed_body call block) (cond b changed (turn_to (Some block) l busy)).block
    by true answer = change_gives call arena raw l block (came_to call locked (Some block)) answer
    by false answer = absurd cc

pub free_held : (o : Option Fault) (l : Layout) (now : Option Block)
    → (free_unless o l now).answer ≡ ok → (free_unless o l now).block ≡ None
free_held None l None answer = refl
free_held None l (Some block) answer = refl
free_held (Some found) l None answer = refl
free_held (Some found) l (Some block) answer = absurd (true≢false (sym (fault_in_is block.body found) ∙ ap is_fault answer))
