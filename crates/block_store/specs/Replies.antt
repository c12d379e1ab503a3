-- What the calls of the domains are answered with, and what they leave in a slot.
use Rattle.std.specs.Prelude.{ℕ, List, slice_set, Option, Some, None}
use Rattle.debug_guard.specs.Guard.{Guard}
use Rattle.event_model.specs.Replies.{PlainReply, ok, null, fault, fault_in}
use Rattle.domain_api.specs.declared.answers.Freed.{Freed}
use Rattle.domain_api.specs.declared.answers.Freed.TheVariants as frees
use Rattle.domain_api.specs.declared.answers.Got.{Got}
use Rattle.domain_api.specs.declared.answers.Got.TheVariants as gots
use Rattle.domain_api.specs.declared.answers.Moved.{Moved}
use Rattle.domain_api.specs.declared.answers.Moved.TheVariants as moves

-- the answer to a request that got this
abbrev pub answer_to : Got → PlainReply
answer_to (gots.Block block) = ok
answer_to gots.Null = null
answer_to (gots.Fault found) = fault found None

-- the slots, with the block that a request got
abbrev pub slots_with : List (Option Guard) → ℕ → Got → List (Option Guard)
slots_with slots i (gots.Block block) = slice_set slots i (Some block)
slots_with slots i gots.Null = slots
slots_with slots i (gots.Fault found) = slots

-- the answer to the free of a block that came to this
abbrev pub answer_after : Freed → PlainReply
answer_after frees.Done = ok
answer_after (frees.Fault block found) = fault_in block.body found

-- the slots, with the block that was not given up
abbrev pub slots_after : List (Option Guard) → ℕ → Freed → List (Option Guard)
slots_after slots i frees.Done = slots
slots_after slots i (frees.Fault block found) = slice_set slots i (Some block)

-- the answer to the realloc of a block that came to this
abbrev pub answer_of : Moved → PlainReply
answer_of (moves.Block block) = ok
answer_of (moves.Null block) = null
answer_of (moves.Fault block found) = fault_in block.body found

-- the block that it left
abbrev pub block_left : Moved → Guard
block_left (moves.Block block) = block
block_left (moves.Null block) = block
block_left (moves.Fault block found) = block
