-- What is true of a heap's tables between its calls.
use Rattle.std.specs.Prelude.{◌≡◌, ℕ, ◌<◌, ◌≤◌, ◌==◌, if◌then◌else◌, List, [], length, get_or}
use Rattle.extents.specs.Sums.{tally, Has}
use Rattle.layout_model.specs.Sizes.{capacity}
use Rattle.layout_model.specs.Sound.{IsSound}
use Rattle.layout_model.specs.Geometry.{PoolLine}
use Rattle.heap_model.specs.Tables.{Spot, Tables, spot_of, same_spot}
use Rattle.heap_model.specs.View.{layout_of}

-- 1 for the pool numbered k
abbrev pub has_number : ℕ → PoolLine → ℕ
has_number k x = if x.number == k then 1 else 0

-- 1 for the spot s
abbrev pub is_spot : Spot → Spot → ℕ
is_spot s a = if same_spot a s then 1 else 0

-- 1 for the pool at the spot s
abbrev pub stands_at : Spot → PoolLine → ℕ
stands_at s x = is_spot s (spot_of x)

-- 1 for the pool at the spot s, if it has class c and a free block
abbrev pub open_at : ℕ → Spot → PoolLine → ℕ
open_at c s x = if x.class == c then (if x.live == capacity c then 0 else stands_at s x) else 0

-- 1 for a pool of class c with a free block
abbrev pub is_open : ℕ → PoolLine → ℕ
is_open c x = if x.class == c then (if x.live == capacity c then 0 else 1) else 0

-- a pool that is one of the first `taken`, and has from one block to all blocks in use
pub record IsPool (taken : ℕ) (x : PoolLine) : Type 0 where
  pub known : x.number < taken
  pub small : x.class < 32
  pub some : 1 ≤ x.live
  pub most : x.live ≤ capacity x.class

-- No two pools have one number or one spot, and the list of a class has just the spots of its pools with a free block, each once.
pub record AreOrderly (started : List PoolLine) (lists : List (List Spot)) (taken : ℕ) : Type 0 where
  pub classes : length lists ≡ 32
  pub pools : (x : PoolLine) → Has x started → IsPool taken x
  pub numbers : (k : ℕ) → tally (has_number k) started ≤ 1
  pub spots : (s : Spot) → tally (stands_at s) started ≤ 1
  pub listed : (c : ℕ) (s : Spot) → tally (is_spot s) (get_or lists c []) ≡ tally (open_at c s) started

-- the tables are orderly, and their layout is sound
pub record IsKept (t : Tables) : Type 0 where
  pub orderly : AreOrderly t.started t.lists t.taken
  pub sound : IsSound (layout_of t)
