-- What changes of links alone leave, and which pools links lead to.
use Rattle.std.specs.Prelude.{◌≡◌, ◌⊎◌, ℕ, ◌+◌, ◌^◌, ◌<◌, ◌≤◌, if◌then◌else◌, List, ◌++◌, ◌∷◌, length, get_or, set as set_at, Option, Some, None}
use Rattle.extents.specs.Sums.{Has}
use Rattle.layout_model.specs.declared.measures.TheConstants.{HEADER_BYTES, POOL_BYTES}
use Rattle.layout_model.specs.Geometry.{Site, PoolHas, place_at, pool_offset}
use Rattle.heap_model.specs.Tables.{Spot, same_spot}
use Rattle.arena_set.specs.declared.pool_id.PoolId.{PoolId}
use Rattle.arena_set.specs.Started.{Started}
use Rattle.arena_set.specs.Arena.{ArenaView}
use Rattle.arena_set.specs.Set.{SetView, loans_of, pools_of, regions_of, dry_of, IsSet}
use Rattle.arena_set.specs.Calls.{HasStarted, IsStarted}
use Rattle.py_heap.specs.Kept.{State, class_at, SameSums}
use Rattle.py_heap.specs.Links.{ClassView, spot, sites_of, pool_at, place_of, class_of, next_of, prev_of, list_of, AreLinked}

-- ---- which pool has an address

-- the arenas are a set, and they are marked
pub record AreMarked (v : SetView) (marks : List Site) : Type 0 where
  pub set : IsSet v
  pub same : SameSums marks (sites_of v.arenas)

-- the pool was started, and has the address
pub record IsPoolOf (v : SetView) (id : PoolId) (address : ℕ) : Type 0 where
  pub a : ArenaView
  pub s : Started
  pub started : IsStarted v id a s
  pub has : PoolHas (place_at a.region.base id.pool) address

-- some pool does
pub record HasPoolOf (v : SetView) (address : ℕ) : Type 0 where
  pub id : PoolId
  pub is : IsPoolOf v id address

-- the pool was started, and begins there
pub record BeginsAt (v : SetView) (id : PoolId) (address : ℕ) : Type 0 where
  pub started : HasStarted v id
  pub place : address ≡ place_of v.arenas (spot id)

-- the word is 0, or the address of a pool
abbrev pub IsLink : SetView → ℕ → Type 0
IsLink v word = (word ≡ 0) ⊎ ((id : PoolId) × BeginsAt v id word)

-- the word leads to the pool, or is 0
abbrev pub LeadsTo : SetView → ℕ → Option PoolId → Type 0
LeadsTo v word None = word ≡ 0
LeadsTo v word (Some id) = BeginsAt v id word

-- where a pool begins, or 0
abbrev pub place_if : SetView → Option PoolId → ℕ
place_if v None = 0
place_if v (Some id) = place_of v.arenas (spot id)

-- ---- what is kept where links change

-- an arena stays, with its base and all its cells but those of headers
abbrev pub SameBody : Option ArenaView → Option ArenaView → Type 0
SameBody None o = o ≡ None
SameBody (Some a) o = (b : ArenaView) × ((o ≡ Some b) × (b.region.base ≡ a.region.base) × ((k off : ℕ) → HEADER_BYTES ≤ off → off < POOL_BYTES
    → let i = pool_offset a.region.base k + off in get_or b.region.cells i None ≡ get_or a.region.cells i None))

-- nothing has changed but links of pools
pub record OnlyLinks (old new : SetView) : Type 0 where
  pub usable : new.usable ≡ old.usable
  pub dry : dry_of new ≡ dry_of old
  pub lines : pools_of new.arenas ≡ pools_of old.arenas
  pub loans : loans_of new.arenas ≡ loans_of old.arenas
  pub regions : regions_of new.arenas ≡ regions_of old.arenas
  pub sites : sites_of new.arenas ≡ sites_of old.arenas
  pub count : length new.arenas ≡ length old.arenas
  pub set : IsSet new
  pub class : (s : Spot) → class_of (pool_at new.arenas s) ≡ class_of (pool_at old.arenas s)
  pub place : (s : Spot) → place_of new.arenas s ≡ place_of old.arenas s
  pub bodies : (i : ℕ) → SameBody (get_or old.arenas i None) (get_or new.arenas i None)

-- the word of the pool at the spot s, where the one pool, if it is there, has got the word w
abbrev pub word_after : Option PoolId → ℕ → Spot → ℕ → ℕ
word_after None w s old = old
word_after (Some id) w s old = if same_spot s (spot id) then w else old

-- the words for the next pool are as before, but for the one pool's
abbrev pub NextWritten : Option PoolId → ℕ → SetView → SetView → Type 0
NextWritten o w old new = (s : Spot) → next_of (pool_at new.arenas s) ≡ word_after o w s (next_of (pool_at old.arenas s))

-- the words for the pool before are as before, but for the one pool's
abbrev pub PrevWritten : Option PoolId → ℕ → SetView → SetView → Type 0
PrevWritten o w old new = (s : Spot) → prev_of (pool_at new.arenas s) ≡ word_after o w s (prev_of (pool_at old.arenas s))

-- ---- lists

-- the first pool of a list without a pool that had these neighbours
abbrev pub first_without : Option PoolId → Option PoolId → Option PoolId → Option PoolId
first_without None after first = after
first_without (Some b) after first = first

-- a pool of class c that is in no list, and can come to the front of its class's
pub record CanPutFirst (c : ℕ) (id : PoolId) (s : State) : Type 0 where
  pub class : class_of (pool_at s.set.arenas (spot id)) ≡ Some c
  pub out : Has (spot id) (list_of s.classes c) → ⊥
  pub room : (class_at s c).count + 1 < 2 ^ 64

-- a pool has left the list of class c
pub record Unlinks (c : ℕ) (id : PoolId) (old new : State) : Type 0 where
  pub only : OnlyLinks old.set new.set
  pub v : ClassView
  pub classes : new.classes ≡ set_at old.classes c v
  pub spots : (before after : List Spot) → list_of old.classes c ≡ before ++ spot id ∷ after → v.spots ≡ before ++ after
  pub full : v.full ≡ (class_at old c).full
  pub linked : AreLinked new.set.arenas new.classes
  pub rest : new ≡ record old { set = new.set; classes = new.classes }

-- a pool has come to the front of the list of class c
pub record PutsFirst (c : ℕ) (id : PoolId) (old new : State) : Type 0 where
  pub only : OnlyLinks old.set new.set
  pub v : ClassView
  pub classes : new.classes ≡ set_at old.classes c v
  pub spots : v.spots ≡ spot id ∷ (class_at old c).spots
  pub full : v.full ≡ (class_at old c).full
  pub linked : AreLinked new.set.arenas new.classes
  pub rest : new ≡ record old { set = new.set; classes = new.classes }
