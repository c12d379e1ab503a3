-- Where a block lies: in the pool that has its address, or in a raw region of its own.
use Rattle.std.specs.Prelude.{ℕ, ◌+◌, Bool, false, ◌&&◌, nat_le, nat_lt, if◌then◌else◌, List, [], ◌∷◌, Option}
use Rattle.std.specs.Prelude.{Some, None}
use Rattle.layout_model.specs.declared.measures.TheConstants.{POOL_BYTES}
use Rattle.event_model.specs.Blocks.{Home, in_pool, in_raw}

-- where pools begin, by their numbers
abbrev pub Places : Type 0
Places = List (Option ℕ)

-- the pool that begins there has the address
abbrev pub pool_has : ℕ → Option ℕ → Bool
pool_has address None = false
pool_has address (Some begins) = nat_le begins address && nat_lt address (begins + POOL_BYTES)

-- the first of the pools, numbered from k on, whose bytes have the address, or else a raw region
abbrev pub home_from : ℕ → Places → ℕ → Home
home_from k [] address = in_raw
home_from k (p ∷ ps) address = if pool_has address p then in_pool k else home_from (k + 1) ps address

-- where the block at the address lies, by the places where the pools begin
abbrev pub home_at : Places → ℕ → Home
home_at places address = home_from 0 places address
