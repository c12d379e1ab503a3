-- How the pools of each class are linked, through the words for the next pool and the pool before in their headers.
use Rattle.std.specs.Prelude.{◌≡◌, ℕ, zero, suc, ◌≤◌, ◌==◌, List, [], ◌∷◌, length, map, get_or, Option, Some, None}
use Rattle.extents.specs.Sums.{Has}
use Rattle.links.specs.Nodes.{times}
use Rattle.layout_model.specs.Geometry.{Site, in_arena, place_at, slot_at}
use Rattle.heap_model.specs.Tables.{Spot}
use Rattle.heap_model.specs.View.{pick}
use Rattle.arena_set.specs.declared.pool_id.PoolId.{PoolId}
use Rattle.arena_set.specs.Flat.{flat}
use Rattle.arena_set.specs.Started.{Started}
use Rattle.arena_set.specs.Arena.{ArenaView}
use Rattle.arena_set.specs.Set.{nth_arena}
use Rattle.py_heap.specs.Heap.{next_in, prev_in}
use Rattle.py_heap.specs.declared.classes.ClassPools.{ClassPools}

-- The pools of a class: the spots of those with free blocks, in the order in which they are asked for a block, how many pools are full,
-- and what is kept of the list beside the bytes: its first pool, and how many there are.
pub record ClassView : Type 0 where
  pub spots : List Spot
  pub full : ℕ
  pub first : Option PoolId
  pub count : ℕ

-- no pools
abbrev pub no_pools : ClassView
no_pools = record { spots = []; full = 0; first = None; count = 0 }

-- where the pool stands
abbrev pub spot : PoolId → Spot
spot p = record { arena = p.arena; slot = p.pool }

-- where the arenas stand
abbrev pub sites_of : List (Option ArenaView) → List Site
sites_of arenas = flat (λ n a. record { arena = n; base = a.region.base } ∷ []) 1 arenas

-- ---- what a spot has

-- pool k of an arena, where it was started
abbrev pub pool_in : Option ArenaView → ℕ → Option Started
pool_in None k = None
pool_in (Some a) k = get_or a.pools k None

-- where pool k of an arena begins
abbrev pub place_in : Option ArenaView → ℕ → ℕ
place_in None k = 0
place_in (Some a) k = place_at a.region.base k

-- the pool at the spot, where it was started
abbrev pub pool_at : List (Option ArenaView) → Spot → Option Started
pool_at arenas s = pool_in (nth_arena arenas s.arena) s.slot

-- where it begins
abbrev pub place_of : List (Option ArenaView) → Spot → ℕ
place_of arenas s = place_in (nth_arena arenas s.arena) s.slot

-- its class
abbrev pub class_of : Option Started → Option ℕ
class_of None = None
class_of (Some x) = Some x.pool.class

-- its word for the next pool
abbrev pub next_of : Option Started → ℕ
next_of None = 0
next_of (Some x) = x.next

-- its word for the pool before
abbrev pub prev_of : Option Started → ℕ
prev_of None = 0
prev_of (Some x) = x.prev

-- no spot
abbrev pub no_spot : Spot
no_spot = record { arena = 0; slot = 0 }

-- the spot whose bytes have the address
abbrev pub spot_by : List Site → ℕ → Spot
spot_by sites p = pick (λ a. in_arena p a == 1) (λ a. record { arena = a.arena; slot = slot_at a.base p }) no_spot sites

-- ---- the list of a class

-- n spots, as the words for the next pool lead from one to the other
abbrev pub spots_from : List (Option ArenaView) → ℕ → Spot → List Spot
spots_from arenas zero s = []
spots_from arenas (suc n) s = s ∷ spots_from arenas n (spot_by (sites_of arenas) (next_of (pool_at arenas s)))

-- the spots of a class, by what is kept of its list
abbrev pub spots_by : List (Option ArenaView) → ℕ → Option PoolId → List Spot
spots_by arenas n None = []
spots_by arenas n (Some id) = spots_from arenas n (spot id)

-- a class, whose list the bytes tell
abbrev pub class_view : List (Option ArenaView) → ClassPools → ClassView
class_view arenas p = record { spots = spots_by arenas p.count p.first; full = p.full; first = p.first; count = p.count }

-- the pool at the first spot
abbrev pub first_id : List Spot → Option PoolId
first_id [] = None
first_id (s ∷ ss) = Some (record { arena = s.arena; pool = s.slot })

-- what is kept of the list is of these spots
pub record IsHeaded (v : ClassView) : Type 0 where
  pub first : v.first ≡ first_id v.spots
  pub count : v.count ≡ length v.spots

-- the spots of class c
abbrev pub list_of : List ClassView → ℕ → List Spot
list_of classes c = (get_or classes c no_pools).spots

-- where the pools at the spots begin
abbrev pub addresses_of : List (Option ArenaView) → List Spot → List ℕ
addresses_of arenas ss = map (place_of arenas) ss

-- a pool that begins at p has the addresses of its neighbours in the list
abbrev pub IsLinked : Option Started → ℕ → List ℕ → Type 0
IsLinked o p ps = (next_of o ≡ next_in p ps) × (prev_of o ≡ prev_in 0 p ps)

-- Each class has a list of pools of the class, each of them once, and each pool of the class has the addresses of its neighbours
-- in that list: 0 at the ends of the list, and 0 and 0 where it is not in it.
pub record AreLinked (arenas : List (Option ArenaView)) (classes : List ClassView) : Type 0 where
  pub headed : (c : ℕ) → IsHeaded (get_or classes c no_pools)
  pub once : (c p : ℕ) → times p (addresses_of arenas (list_of classes c)) ≤ 1
  pub listed : (c : ℕ) (s : Spot) → Has s (list_of classes c) → class_of (pool_at arenas s) ≡ Some c
  pub links : (c : ℕ) (s : Spot) → class_of (pool_at arenas s) ≡ Some c
      → IsLinked (pool_at arenas s) (place_of arenas s) (addresses_of arenas (list_of classes c))
