-- What a heap keeps of its pools and arenas, as plain tables.
use Rattle.std.specs.Prelude.{ℕ, ◌+◌, ◌-◌, ◌==◌, ◌&&◌, Bool, List, [], ◌∷◌, replicate, Option, None}
use Rattle.layout_model.specs.Layout.{Usable}
use Rattle.layout_model.specs.Geometry.{PoolLine}

-- a place for a pool: the arena that has it, and how many places of that arena stand before it
pub record Spot : Type 0 where
  pub arena : ℕ
  pub slot : ℕ

-- `usable` has the arenas with free pools, in the order in which they are asked for one.
-- `dry` has at each arena's number its total, if it is out and has no free pool.
-- `started` has the pools with blocks in use, in any order.
-- `lists` has for each class the spots of its pools with free blocks, in the order in which they are asked for a block.
-- `taken` counts the pools taken so far; `given`, `back` and `most` the arenas granted, given back, and out at once.
pub record Tables : Type 0 where
  pub usable : List Usable
  pub dry : List (Option ℕ)
  pub started : List PoolLine
  pub lists : List (List Spot)
  pub taken : ℕ
  pub given : ℕ
  pub back : ℕ
  pub most : ℕ

-- nothing is taken yet
abbrev pub empty_tables : Tables
empty_tables = record { usable = []; dry = None ∷ []; started = []; lists = replicate 32 []; taken = 0; given = 0; back = 0; most = 0 }

-- where the pool stands
abbrev pub spot_of : PoolLine → Spot
spot_of x = record { arena = x.arena; slot = x.slot }

abbrev pub same_spot : Spot → Spot → Bool
same_spot a b = (a.arena == b.arena) && (a.slot == b.slot)

-- the pool with one block more in use
abbrev pub with_one_more : PoolLine → PoolLine
with_one_more x = record x { live = x.live + 1 }

-- the pool with one block fewer in use
abbrev pub with_one_less : PoolLine → PoolLine
with_one_less x = record x { live = x.live - 1 }
