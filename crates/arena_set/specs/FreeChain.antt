-- The free pools of an arena. Those that were taken before are linked by the `next` words of their headers; those behind them were never taken.
use Rattle.std.specs.Prelude.{◌≡◌, ℕ, zero, suc, ◌+◌, ◌-◌, ◌≤◌, List, [], ◌∷◌, ◌++◌, length, Option}
use Rattle.raw_region.specs.Region.{RegionView}
use Rattle.raw_region.specs.Cells.{word_at}
use Rattle.layout_model.specs.Geometry.{place_at, pool_offset, slot_at, total_at}

-- k numbers from n on, in order
abbrev pub numbers_from : ℕ → ℕ → List ℕ
numbers_from n zero = []
numbers_from n (suc k) = n ∷ numbers_from (n + 1) k

-- the address of the first of some pools, or 0
abbrev pub first_place : ℕ → List ℕ → ℕ
first_place base [] = 0
first_place base (k ∷ ks) = place_at base k

-- the `next` word of each of these pools is the address of the one after it, and that of the last one is 0
abbrev pub AreChained : List (Option ℕ) → ℕ → List ℕ → Type 0
AreChained cells base [] = Unit {0}
AreChained cells base (k ∷ ks) = (word_at cells (pool_offset base k + 16) ≡ first_place base ks) × AreChained cells base ks

-- n pools, the first of them at an address, as the words lead to them
abbrev pub chain_from : List (Option ℕ) → ℕ → ℕ → ℕ → List ℕ
chain_from cells base zero place = []
chain_from cells base (suc n) place = slot_at base place ∷ chain_from cells base n (word_at cells (place - base + 16))

-- how many pools were never taken, of an arena of which `used` were
abbrev pub untouched : ℕ → ℕ → ℕ
untouched base used = total_at base - used

-- the free pools, of which there are so many: those that are linked, the first of them at an address, and then those that were never taken
abbrev pub free_list : RegionView → ℕ → ℕ → ℕ → List ℕ
free_list r first free used = chain_from r.cells r.base (free - untouched r.base used) first ++ numbers_from used (untouched r.base used)

-- the words lead to all free pools that were taken before
pub record IsFreeList (r : RegionView) (first free used : ℕ) : Type 0 where
  pub linked : List ℕ
  pub chain : AreChained r.cells r.base linked
  pub front : first ≡ first_place r.base linked
  pub count : free ≡ length linked + untouched r.base used
  pub most : used ≤ total_at r.base
