-- How a heap's tables change where a block is taken or freed, case by case.
use Rattle.std.specs.Prelude.{◌≡◌, ◌≢◌, ◌⊎◌, ℕ, ◌+◌, ◌-◌, ◌≤◌, max, true, false, List, [], ◌∷◌, ◌++◌, get_or, set, Some, None}
use Rattle.extents.specs.Sums.{Has, Inserted, Removed, Replaced}
use Rattle.layout_model.specs.Sizes.{capacity}
use Rattle.layout_model.specs.Layout.{Usable}
use Rattle.layout_model.specs.Place.{after_taking, dry_after_taking}
use Rattle.layout_model.specs.Unplace.{find_arena, without_arena, put_arena, is_last, arena_back}
use Rattle.layout_model.specs.Geometry.{PoolLine}
use Rattle.heap_model.specs.Tables.{Spot, Tables, spot_of, with_one_more, with_one_less}
use Rattle.heap_model.specs.View.{layout_of}

-- the arenas stay
pub record SameArenas (old new : Tables) : Type 0 where
  pub usable : new.usable ≡ old.usable
  pub dry : new.dry ≡ old.dry
  pub given : new.given ≡ old.given
  pub back : new.back ≡ old.back
  pub most : new.most ≡ old.most

-- one more block of class c: x is the first pool of the class, and has a free block after it too
pub record OneMore (c : ℕ) (x : PoolLine) (rest : List Spot) (old new : Tables) : Type 0 where
  pub first : get_or old.lists c [] ≡ spot_of x ∷ rest
  pub room : x.live + 1 ≢ capacity x.class
  pub started : Replaced x (with_one_more x) old.started new.started
  pub lists : new.lists ≡ old.lists
  pub taken : new.taken ≡ old.taken
  pub arenas : SameArenas old new

-- the last free block of x, which is the first pool of class c and leaves the list
pub record LastOne (c : ℕ) (x : PoolLine) (rest : List Spot) (old new : Tables) : Type 0 where
  pub first : get_or old.lists c [] ≡ spot_of x ∷ rest
  pub last : x.live + 1 ≡ capacity x.class
  pub started : Replaced x (with_one_more x) old.started new.started
  pub lists : new.lists ≡ set old.lists c rest
  pub taken : new.taken ≡ old.taken
  pub arenas : SameArenas old new

-- the first block of y, a new pool of class c, which has none with a free block; the arena `from` has y
pub record NewPool (c : ℕ) (y : PoolLine) (from : ℕ) (old new : Tables) : Type 0 where
  pub none : get_or old.lists c [] ≡ []
  pub pool : (y.number ≡ old.taken) × (y.class ≡ c) × (y.arena ≡ from) × (y.live ≡ 1)
  pub free : (x : PoolLine) → Has x old.started → spot_of x ≢ spot_of y
  pub started : Inserted y old.started new.started
  pub lists : new.lists ≡ set old.lists c (spot_of y ∷ [])
  pub taken : new.taken ≡ old.taken + 1

-- the first usable arena gives a pool
pub record GavePool (u : Usable) (us : List Usable) (old new : Tables) : Type 0 where
  pub first : old.usable ≡ u ∷ us
  pub usable : new.usable ≡ after_taking u us
  pub dry : new.dry ≡ dry_after_taking u old.dry
  pub given : new.given ≡ old.given
  pub back : new.back ≡ old.back
  pub most : new.most ≡ old.most

-- an arena of `total` pools is granted and gives one of them
pub record GrantedArena (total : ℕ) (old new : Tables) : Type 0 where
  pub none : old.usable ≡ []
  pub pools : (63 ≤ total) × (total ≤ 64)
  pub usable : new.usable ≡ record { arena = old.given + 1; total = total; free = total - 1 } ∷ []
  pub dry : new.dry ≡ old.dry ++ None ∷ []
  pub given : new.given ≡ old.given + 1
  pub back : new.back ≡ old.back
  pub most : new.most ≡ max old.most (old.given + 1 - old.back)

-- a block of the full pool x is freed: x goes to the front of its class
pub record FreedFull (x : PoolLine) (old new : Tables) : Type 0 where
  pub full : x.live ≡ capacity x.class
  pub started : Replaced x (with_one_less x) old.started new.started
  pub lists : new.lists ≡ set old.lists x.class (spot_of x ∷ get_or old.lists x.class [])
  pub taken : new.taken ≡ old.taken
  pub arenas : SameArenas old new

-- a block of x is freed, which had a free block and keeps others in use
pub record FreedOne (x : PoolLine) (old new : Tables) : Type 0 where
  pub room : x.live ≢ capacity x.class
  pub more : x.live ≢ 1
  pub started : Replaced x (with_one_less x) old.started new.started
  pub lists : new.lists ≡ old.lists
  pub taken : new.taken ≡ old.taken
  pub arenas : SameArenas old new

-- the last block of x is freed: x leaves the list of its class, which is `rest` after that, and is no pool any more
pub record FreedLast (x : PoolLine) (rest : List Spot) (old new : Tables) : Type 0 where
  pub last : x.live ≡ 1
  pub started : Removed x old.started new.started
  pub left : Removed (spot_of x) (get_or old.lists x.class []) rest
  pub lists : new.lists ≡ set old.lists x.class rest
  pub taken : new.taken ≡ old.taken
  pub given : new.given ≡ old.given
  pub most : new.most ≡ old.most

-- a pool comes back to arena a, which had none free and goes to the front
pub record WentFirst (a total : ℕ) (old new : Tables) : Type 0 where
  pub was : get_or old.dry a None ≡ Some total
  pub usable : new.usable ≡ record { arena = a; total = total; free = 1 } ∷ old.usable
  pub dry : new.dry ≡ set old.dry a None
  pub back : new.back ≡ old.back

-- a pool comes back to arena a, a usable one, which stays: it is put by its free pools
pub record WasPut (a : ℕ) (u : Usable) (old new : Tables) : Type 0 where
  pub was : find_arena a old.usable ≡ Some u
  pub stays : (u.free + 1 ≢ u.total) ⊎ (is_last a old.usable ≡ true)
  pub usable : new.usable ≡ put_arena (record u { free = u.free + 1 }) (without_arena a old.usable)
  pub dry : new.dry ≡ old.dry
  pub back : new.back ≡ old.back

-- a pool comes back to arena a, all of whose pools are free then, and which is not the last: it goes back
pub record WentBack (a : ℕ) (u : Usable) (old new : Tables) : Type 0 where
  pub was : find_arena a old.usable ≡ Some u
  pub all : u.free + 1 ≡ u.total
  pub other : is_last a old.usable ≡ false
  pub usable : new.usable ≡ without_arena a old.usable
  pub dry : new.dry ≡ old.dry
  pub back : new.back ≡ old.back + 1

-- a pool comes back to arena a, whatever becomes of the arena: the arenas are those that the layout has then
pub record CameBack (a : ℕ) (old new : Tables) : Type 0 where
  pub usable : new.usable ≡ (arena_back (layout_of old) a).usable
  pub dry : new.dry ≡ (arena_back (layout_of old) a).dry
  pub back : new.back ≡ (arena_back (layout_of old) a).back
