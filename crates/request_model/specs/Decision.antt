-- What a call that asks for a block, or gives one up, comes to before any source is asked.
use Rattle.std.specs.Prelude.{ℕ, ◌-◌, ◌*◌, Bool, true, false, not, ◌&&◌, nat_le, nat_lt, if◌then◌else◌, Option, Some, None}
use Rattle.mem_base.specs.declared.limits.TheConstants.{HOOK_BYTES, MAX_SIZE}
use Rattle.mem_base.specs.declared.reply.Fault.{Fault}
use Rattle.mem_base.specs.declared.reply.Fault.TheVariants.{Unlocked}
use Rattle.mem_base.specs.declared.trace.Letter.{Letter}
use Rattle.mem_base.specs.declared.trace.Letter.TheVariants.{Raw, Mem, Obj}
use Rattle.layout_model.specs.Asks.{Request}
use Rattle.layout_model.specs.Asks.Request.{FromPools, FromRaw, NoRequest}
use Rattle.layout_model.specs.Sizes.{need}

-- the greatest size of a request
abbrev pub max_size : ℕ
max_size = MAX_SIZE

-- the greatest size of a block's data: the hooks put their bytes round it
abbrev pub max_data : ℕ
max_data = MAX_SIZE - HOOK_BYTES

-- ---- the fault of a call

-- the calls of the mem and object domains need the interpreter lock
abbrev pub needs_lock : Letter → Bool
needs_lock Raw = false
needs_lock Mem = true
needs_lock Obj = true

-- a call of the domain by a track that lacks the lock that it needs
abbrev pub is_unlocked : Letter → Bool → Bool
is_unlocked v locked = needs_lock v && not locked

-- the fault of a call: that it lacks the lock, or else what the check of its block finds
abbrev pub call_fault : Letter → Bool → Option Fault → Option Fault
call_fault v locked found = if is_unlocked v locked then Some Unlocked else found

-- ---- what a request for a block comes to

pub data Decision : Type 0 where
  too_great : Decision
  faults : Fault → Decision
  -- a source may be asked
  asks : Decision

-- a fault, or else what comes of the call without one
abbrev pub unless_fault : Option Fault → Decision → Decision
unless_fault None d = d
unless_fault (Some found) d = faults found

-- a size that leaves no room for the hooks' bytes
abbrev pub dressed_decision : ℕ → Decision
dressed_decision n = if nat_lt max_data n then too_great else asks

-- for n bytes: a size that no request has, the call's fault, a size that leaves no room for the hooks' bytes
abbrev pub decision : Letter → ℕ → Bool → Option Fault → Decision
decision v n locked found =
    if nat_lt max_size n then too_great
    else unless_fault (call_fault v locked found) (dressed_decision n)

-- ---- what is asked for

-- what a block of n bytes and the hooks' bytes ask for: the pools, or in the raw domain the raw source
abbrev pub request : Letter → ℕ → Request
request Raw n = FromRaw (need n)
request Mem n = FromPools (need n)
request Obj n = FromPools (need n)

-- what a call for a block of n bytes asks for, by what it came to
abbrev pub request_after : Letter → ℕ → Decision → Request
request_after v n too_great = NoRequest
request_after v n (faults found) = NoRequest
request_after v n asks = request v n

-- ---- a block that gets another size

-- a block of a pool whose blocks have s bytes may stay where it is for m bytes: they fit, and are more than three
-- quarters of it
abbrev pub fits_in_place : ℕ → ℕ → Bool
fits_in_place s m = nat_le m s && nat_lt (3 * s) (4 * m)

-- what a block that has to move to have n bytes of data asks for: one of a pool what a new block does, one of a raw
-- region a raw region again
abbrev pub move_request : Bool → Letter → ℕ → Request
move_request pooled v n = if pooled then request v n else FromRaw (need n)
