-- What is true of every layout that a heap can have.
use Rattle.std.specs.Prelude.{◌≡◌, ℕ, ◌+◌, ◌<◌, ◌≤◌, ◌==◌, Bool, if◌then◌else◌, List, [], ◌∷◌, length, get_or, Option, Some, None}
use Rattle.extents.specs.Sums.{tally}
use Rattle.layout_model.specs.declared.measures.TheConstants.{CLASSES}
use Rattle.layout_model.specs.Sizes.{capacity}
use Rattle.layout_model.specs.Layout.{Layout, Usable, Used, Full}
use Rattle.layout_model.specs.Place.{pools_of_class}

-- 1 where the test holds
abbrev pub one_if : Bool → ℕ
one_if b = if b then 1 else 0

-- 1 for pool k
abbrev pub is_pool : ℕ → Used → ℕ
is_pool k p = one_if (p.pool == k)

-- 1 for a pool of arena a
abbrev pub has_arena : ℕ → Used → ℕ
has_arena a p = one_if (p.arena == a)

-- 1 for a full pool of arena a
abbrev pub full_arena : ℕ → Option Full → ℕ
full_arena a None = 0
full_arena a (Some f) = one_if (f.arena == a)

-- 1 for a full pool
abbrev pub full_times : Option Full → ℕ
full_times None = 0
full_times (Some f) = 1

-- 1 for arena a
abbrev pub is_arena : ℕ → Usable → ℕ
is_arena a u = one_if (u.arena == a)

-- the free pools of arena a
abbrev pub free_in : ℕ → Usable → ℕ
free_in a u = if u.arena == a then u.free else 0

-- the pools of arena a
abbrev pub total_in : ℕ → Usable → ℕ
total_in a u = if u.arena == a then u.total else 0

-- 1 for an arena without a free pool
abbrev pub dry_times : Option ℕ → ℕ
dry_times None = 0
dry_times (Some total) = 1

-- the pools of an arena without a free pool
abbrev pub total_or : Option ℕ → ℕ
total_or None = 0
total_or (Some total) = total

-- how often pool k stands in the lists of the classes
abbrev pub pool_times : ℕ → List (List Used) → ℕ
pool_times k pss = tally (tally (is_pool k)) pss

-- the pools of arena a that have blocks in use
abbrev pub pools_of : ℕ → Layout → ℕ
pools_of a l = tally (tally (has_arena a)) l.used + tally (full_arena a) l.full

-- the first arena has at least n free pools
abbrev pub StartsAt : ℕ → List Usable → Type 0
StartsAt n [] = Unit {0}
StartsAt n (u ∷ us) = n ≤ u.free

-- usable arenas rise in free pools; each has 63 or 64 pools, and from 1 to all of them are free
abbrev pub AreUsable : List Usable → Type 0
AreUsable [] = Unit {0}
AreUsable (u ∷ us) = (63 ≤ u.total) × (u.total ≤ 64) × (1 ≤ u.free) × (u.free ≤ u.total) × StartsAt u.free us × AreUsable us

-- each pool has from 1 to n - 1 blocks in use
abbrev pub Lives : ℕ → List Used → Type 0
Lives n [] = Unit {0}
Lives n (p ∷ ps) = (1 ≤ p.live) × (p.live < n) × Lives n ps

abbrev pub HasSomeClass : Option Full → Type 0
HasSomeClass None = Unit {0}
HasSomeClass (Some f) = f.class < CLASSES

abbrev pub HasTotal : Option ℕ → Type 0
HasTotal None = Unit {0}
HasTotal (Some total) = (63 ≤ total) × (total ≤ 64)

-- Numbers of pools and arenas are distinct and in range, and each arena's free pools and pools in use are all its pools.
-- So the arena of each pool in use is out.
pub record IsSound (l : Layout) : Type 0 where
  pub classes : length l.used ≡ CLASSES
  pub lives : (c : ℕ) → c < CLASSES → Lives (capacity c) (pools_of_class l c)
  pub usable : AreUsable l.usable
  pub full : (k : ℕ) → HasSomeClass (get_or l.full k None)
  pub dry : (a : ℕ) → HasTotal (get_or l.dry a None)
  pub pools_once : (k : ℕ) → pool_times k l.used + full_times (get_or l.full k None) ≤ 1
  pub pools_known : (k : ℕ) → length l.full ≤ k → pool_times k l.used ≡ 0
  pub arenas_once : (a : ℕ) → tally (is_arena a) l.usable + dry_times (get_or l.dry a None) ≤ 1
  pub arenas_known : (a : ℕ) → l.given < a → tally (is_arena a) l.usable ≡ 0
  pub arenas_numbered : (length l.dry ≡ l.given + 1) × (get_or l.dry 0 None ≡ None) × (tally (is_arena 0) l.usable ≡ 0)
  pub adds_up : (a : ℕ) → tally (free_in a) l.usable + pools_of a l ≡ tally (total_in a) l.usable + total_or (get_or l.dry a None)
  pub out : length l.usable + tally dry_times l.dry + l.back ≡ l.given
  pub most : length l.usable + tally dry_times l.dry ≤ l.most
