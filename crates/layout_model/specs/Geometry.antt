-- Where arenas stand, and where the pools of an arena do.
use Rattle.std.specs.Prelude.{◌≡◌, ℕ, ◌+◌, ◌-◌, ◌*◌, ◌/◌, ◌%◌, ◌<◌, ◌≤◌, ◌==◌, nat_le, if◌then◌else◌, List, [], ◌∷◌, length, Option, Some, None}
use Rattle.raw_region.specs.Region.{RegionView}
use Rattle.extents.specs.Extent.{Extent, region_extent}
use Rattle.layout_model.specs.declared.measures.TheConstants.{ARENA_BYTES, PAGE_BYTES, POOL_BYTES}

-- ---- arenas

-- a region that can be an arena: it has an arena's bytes, and begins at a page that is not the first one
pub record IsArenaRegion (r : RegionView) : Type 0 where
  pub len : length r.cells ≡ ARENA_BYTES
  pub aligned : r.base % PAGE_BYTES ≡ 0
  pub somewhere : 1 ≤ r.base

-- the regions of the arenas that are there
abbrev pub held_extents : List (Option RegionView) → List Extent
held_extents [] = []
held_extents (None ∷ arenas) = held_extents arenas
held_extents (Some r ∷ arenas) = region_extent r ∷ held_extents arenas

-- an arena that is out: its number, and the address where it begins
pub record Site : Type 0 where
  pub arena : ℕ
  pub base : ℕ

-- the arena has the address
abbrev pub ArenaHas : ℕ → Site → Type 0
ArenaHas address a = (a.base ≤ address) × (address < a.base + ARENA_BYTES)

-- 1 where the arena has the address, else 0
abbrev pub in_arena : ℕ → Site → ℕ
in_arena address a = if nat_le a.base address then (if nat_le (a.base + ARENA_BYTES) address then 0 else 1) else 0

-- ---- the pools of an arena

-- how far behind its base an arena's first pool begins
abbrev pub first_pool : ℕ → ℕ
first_pool base = (POOL_BYTES - base % POOL_BYTES) % POOL_BYTES

-- how many pools an arena with this base has
abbrev pub total_at : ℕ → ℕ
total_at base = if base % POOL_BYTES == 0 then 64 else 63

-- how far behind its base an arena's pool begins that has so many before it
abbrev pub pool_offset : ℕ → ℕ → ℕ
pool_offset base slot = first_pool base + POOL_BYTES * slot

-- the address where that pool begins
abbrev pub place_at : ℕ → ℕ → ℕ
place_at base slot = base + pool_offset base slot

-- how many of the arena's pools stand before the one that has the address
abbrev pub slot_at : ℕ → ℕ → ℕ
slot_at base address = (address - base - first_pool base) / POOL_BYTES

-- ---- one pool

-- A pool with blocks in use: its number, the class of its blocks, its arena, how many of the arena's pools stand before it,
-- the address where it begins, and how many of its blocks are in use.
pub record PoolLine : Type 0 where
  pub number : ℕ
  pub class : ℕ
  pub arena : ℕ
  pub slot : ℕ
  pub place : ℕ
  pub live : ℕ

-- the pool that begins at the place has the address
abbrev pub PoolHas : ℕ → ℕ → Type 0
PoolHas place address = (place ≤ address) × (address < place + POOL_BYTES)

-- the extent lies in the pool that begins at the place
abbrev pub InPool : Extent → ℕ → Type 0
InPool e place = (place ≤ e.place) × (e.place + e.len ≤ place + POOL_BYTES)

-- a pool begins at the place, a multiple of its size, and lies in the region
pub record PoolInRegion (place : ℕ) (region : Extent) : Type 0 where
  pub aligned : place % POOL_BYTES ≡ 0
  pub inside : (region.place ≤ place) × (place + POOL_BYTES ≤ region.place + region.len)

-- a pool begins at a multiple of its size, and all of it is in its arena
abbrev pub PoolsAreInArenas : Type 0
PoolsAreInArenas = (base slot : ℕ) → slot < total_at base
    → (place_at base slot % POOL_BYTES ≡ 0) × (base ≤ place_at base slot) × (place_at base slot + POOL_BYTES ≤ base + ARENA_BYTES)

-- the address of a pool tells which of the arena's pools it is
abbrev pub AddressTellsSlot : Type 0
AddressTellsSlot = (base slot address : ℕ) → PoolHas (place_at base slot) address → slot_at base address ≡ slot
