-- Each change of a heap's tables is one of its layout.
use Rattle.std.specs.Prelude.{◌≡◌, ◌≢◌, ℕ, ◌+◌, ◌-◌, ◌<◌, ◌≤◌, length, List, [], ◌∷◌, ◌++◌, get_or, Option, Some, None}
use Rattle.mem_base.specs.declared.history.Grant.{Grant}
use Rattle.mem_base.specs.declared.history.Grant.TheVariants.{NotAsked, Refused, Granted}
use Rattle.extents.specs.Sums.{tally, Has, Inserted, Removed, Replaced}
use Rattle.layout_model.specs.Layout.{Usable}
use Rattle.layout_model.specs.Sizes.{capacity}
use Rattle.layout_model.specs.Sound.{pool_times, full_times}
use Rattle.layout_model.specs.Place.{place, after_taking, dry_after_taking}
use Rattle.layout_model.specs.Unplace.{unplace}
use Rattle.layout_model.specs.Asks.{FitsClass}
use Rattle.layout_model.specs.Geometry.{PoolLine}
use Rattle.heap_model.specs.Tables.{Spot, Tables, spot_of, with_one_more, with_one_less}
use Rattle.heap_model.specs.View.{layout_of, places_of}
use Rattle.heap_model.specs.Kept.{is_open, IsKept}
use Rattle.heap_model.specs.Changes.{OneMore, LastOne, NewPool, GavePool, GrantedArena, FreedFull, FreedOne, FreedLast, WentFirst, WasPut, WentBack, CameBack}

-- the places of all pools but k stay
abbrev pub OthersStay : ℕ → Tables → Tables → Type 0
OthersStay k old new = (j : ℕ) → j ≢ k → get_or (places_of new) j None ≡ get_or (places_of old) j None

-- a block of class c is placed in the pool x, where the arena source answers g
pub record IsPlaced (c : ℕ) (g : Grant) (x : PoolLine) (old new : Tables) : Type 0 where
  pub kept : IsKept new
  pub fits : FitsClass (layout_of old) c g
  pub layout : layout_of new ≡ (place (layout_of old) c g).layout
  pub pool : (place (layout_of old) c g).pool ≡ Some x.number
  pub place : get_or (places_of new) x.number None ≡ Some x.place
  pub others : OthersStay x.number old new

-- a block of the pool x is freed
pub record IsUnplaced (x : PoolLine) (old new : Tables) : Type 0 where
  pub kept : IsKept new
  pub layout : layout_of new ≡ unplace (layout_of old) x.number
  pub place : get_or (places_of old) x.number None ≡ Some x.place
  pub others : OthersStay x.number old new

-- a block of the first pool of its class, which has a free block after it too
abbrev pub OneMoreIsPlaced : Type 0
OneMoreIsPlaced = (c : ℕ) (x : PoolLine) (rest : List Spot) (old new : Tables) → IsKept old → OneMore c x rest old new → IsPlaced c NotAsked x old new

-- the last free block of the first pool of its class
abbrev pub LastOneIsPlaced : Type 0
LastOneIsPlaced = (c : ℕ) (x : PoolLine) (rest : List Spot) (old new : Tables) → IsKept old → LastOne c x rest old new → IsPlaced c NotAsked x old new

-- the first block of a new pool of the first usable arena
abbrev pub NewPoolIsPlaced : Type 0
NewPoolIsPlaced = (c : ℕ) (y : PoolLine) (u : Usable) (us : List Usable) (old new : Tables) → c < 32 → IsKept old → NewPool c y u.arena old new → GavePool u us old new
    → IsPlaced c NotAsked y old new

-- the first block of a new pool of an arena that is granted for it
abbrev pub NewArenaIsPlaced : Type 0
NewArenaIsPlaced = (c : ℕ) (y : PoolLine) (total : ℕ) (old new : Tables) → c < 32 → IsKept old → NewPool c y (old.given + 1) old new → GrantedArena total old new
    → IsPlaced c (Granted total) y old new

-- where no pool of the class and no arena has room, a refused arena leaves all as it was
abbrev pub RefusedIsNotPlaced : Type 0
RefusedIsNotPlaced = (c : ℕ) (t : Tables) → get_or t.lists c [] ≡ [] → t.usable ≡ []
    → FitsClass (layout_of t) c Refused × ((place (layout_of t) c Refused).layout ≡ layout_of t) × ((place (layout_of t) c Refused).pool ≡ None)

-- a block of a full pool
abbrev pub FreedFullIsUnplaced : Type 0
FreedFullIsUnplaced = (x : PoolLine) (old new : Tables) → IsKept old → FreedFull x old new → IsUnplaced x old new

-- a block of a pool that has a free block and keeps others in use
abbrev pub FreedOneIsUnplaced : Type 0
FreedOneIsUnplaced = (x : PoolLine) (old new : Tables) → IsKept old → FreedOne x old new → IsUnplaced x old new

-- the last block of a pool of an arena that had no free pool
abbrev pub DryArenaGetsPool : Type 0
DryArenaGetsPool = (x : PoolLine) (rest : List Spot) (total : ℕ) (old new : Tables) → IsKept old → FreedLast x rest old new → WentFirst x.arena total old new → IsUnplaced x old new

-- the last block of a pool of an arena that had free pools and stays
abbrev pub UsableArenaIsPut : Type 0
UsableArenaIsPut = (x : PoolLine) (rest : List Spot) (u : Usable) (old new : Tables) → IsKept old → FreedLast x rest old new → WasPut x.arena u old new → IsUnplaced x old new

-- the last block of a pool of an arena that goes back to the source
abbrev pub WholeArenaGoesBack : Type 0
WholeArenaGoesBack = (x : PoolLine) (rest : List Spot) (u : Usable) (old new : Tables) → IsKept old → FreedLast x rest old new → WentBack x.arena u old new → IsUnplaced x old new

-- the last block of a pool, in all three cases of its arena
abbrev pub PoolComesBack : Type 0
PoolComesBack = (x : PoolLine) (rest : List Spot) (old new : Tables) → IsKept old → FreedLast x rest old new → CameBack x.arena old new → IsUnplaced x old new

-- 1 for a place
abbrev pub place_times : Option ℕ → ℕ
place_times None = 0
place_times (Some p) = 1

-- a number has a place exactly where the layout has its pool, which stands in one list of a class or is full
abbrev pub PlacesAreOfPools : Type 0
PlacesAreOfPools = (t : Tables) (k : ℕ) → IsKept t → place_times (get_or (places_of t) k None) ≡ pool_times k (layout_of t).used + full_times (get_or (layout_of t).full k None)

-- the first pool of a class has a free block
abbrev pub FirstHasRoom : Type 0
FirstHasRoom = (t : Tables) (c : ℕ) (s : Spot) (rest : List Spot) → IsKept t → get_or t.lists c [] ≡ s ∷ rest
    → (x : PoolLine) × (Has x t.started × (spot_of x ≡ s) × (x.class ≡ c) × (x.live < capacity x.class))

-- a pool with a free block stands in the list of its class, with other spots before and after it
abbrev pub PoolIsListed : Type 0
PoolIsListed = (t : Tables) (x : PoolLine) → IsKept t → Has x t.started → x.live < capacity x.class
    → (before : List Spot) × (after : List Spot) × (get_or t.lists x.class [] ≡ before ++ spot_of x ∷ after) × ((s : Spot) → Has s before → s ≢ spot_of x) × ((s : Spot) → Has s after → s ≢ spot_of x)

-- the list of a class is as long as the class has pools with a free block
abbrev pub ListsHaveOpenPools : Type 0
ListsHaveOpenPools = (t : Tables) (c : ℕ) → IsKept t → length (get_or t.lists c []) ≡ tally (is_open c) t.started

-- where no pool has blocks in use, all pools of each arena are free
abbrev pub ArenasAreFree : Type 0
ArenasAreFree = (t : Tables) → IsKept t → t.started ≡ [] → ((a : ℕ) → get_or t.dry a None ≡ None) × ((u : Usable) → Has u t.usable → u.free ≡ u.total)

-- a pool that is started and then gives its first block comes with that block
abbrev pub StartedAndLent : Type 0
StartedAndLent = (t : Tables) (x : PoolLine) (mid new : List PoolLine) → IsKept t → x.number ≡ t.taken → Inserted x t.started mid → Replaced x (with_one_more x) mid new → Inserted (with_one_more x) t.started new

-- a pool that gets its last block back and then goes
abbrev pub MendedAndGone : Type 0
MendedAndGone = (t : Tables) (x : PoolLine) (mid new : List PoolLine) → IsKept t → Replaced x (with_one_less x) t.started mid → Removed (with_one_less x) mid new → Removed x t.started new

-- an arena that is granted gives its first pool
abbrev pub NewArenaGives : Type 0
NewArenaGives = (a total : ℕ) (ds : List (Option ℕ)) → 63 ≤ total
    → (after_taking (record { arena = a; total = total; free = total }) [] ≡ record { arena = a; total = total; free = total - 1 } ∷ [])
    × (dry_after_taking (record { arena = a; total = total; free = total }) ds ≡ ds)
