-- Which pool of which arena has an address.
use Rattle.std.specs.Prelude.{◌≡◌, ℕ, ◌<◌, ◌≤◌, List, get_or, Some, None}
use Rattle.extents.specs.Sums.{tally, Has}
use Rattle.layout_model.specs.Geometry.{Site, ArenaHas, PoolHas, PoolLine, in_arena, place_at, slot_at, total_at}
use Rattle.heap_model.specs.Tables.{Tables}
use Rattle.heap_model.specs.View.{places_of}
use Rattle.heap_model.specs.Kept.{IsKept}

-- the pool stands at its place in the arena
pub record StandsIn (a : Site) (x : PoolLine) : Type 0 where
  pub arena : x.arena ≡ a.arena
  pub slot : x.slot < total_at a.base
  pub place : x.place ≡ place_at a.base x.slot

-- no address is in two arenas, and each pool stands in one of them
pub record AreStanding (sites : List Site) (t : Tables) : Type 0 where
  pub apart : (p : ℕ) → tally (in_arena p) sites ≤ 1
  pub pools : (x : PoolLine) → Has x t.started → (a : Site) × (Has a sites × StandsIn a x)

-- the arena with an address of a pool is the pool's, and the address tells which of the arena's places the pool has
abbrev pub AddressFindsPool : Type 0
AddressFindsPool = (sites : List Site) (t : Tables) (x : PoolLine) (a : Site) (p : ℕ) → AreStanding sites t → Has x t.started → PoolHas x.place p → Has a sites → ArenaHas p a
    → StandsIn a x × (x.slot ≡ slot_at a.base p)

-- no address is in two pools
abbrev pub PoolsDoNotMeet : Type 0
PoolsDoNotMeet = (sites : List Site) (t : Tables) (x z : PoolLine) (p : ℕ) → IsKept t → AreStanding sites t → Has x t.started → Has z t.started → PoolHas x.place p → PoolHas z.place p → x ≡ z

-- pools with different numbers have different places
abbrev pub PlacesDiffer : Type 0
PlacesDiffer = (sites : List Site) (t : Tables) (j k p : ℕ) → IsKept t → AreStanding sites t → get_or (places_of t) j None ≡ Some p → get_or (places_of t) k None ≡ Some p → j ≡ k
