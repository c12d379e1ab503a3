-- What the calls of a pool find and leave.
use Rattle.std.specs.Prelude.{◌≡◌, ℕ, ◌+◌, ◌<◌, ◌≤◌, ◌⊎◌, ◌↔◌, Bool, IsTrue, List, length, get_or, Option, Some, None}
use Rattle.raw_region.specs.Cells.{AtHome}
use Rattle.extents.specs.Sums.{Has, Inserted, Removed}
use Rattle.layout_model.specs.declared.measures.TheConstants.{HEADER_BYTES}
use Rattle.layout_model.specs.Pool.{size_of, blocks_of, live_of, HasRoom, IsFull, IsEmpty, next_block, after_take, after_give, IsBlock}
use Rattle.layout_model.specs.Plain.{PlainView, after_taking, after_giving, StandsFor}

-- ---- which cells change

-- 1 for a byte at home
abbrev pub home : Option ℕ → ℕ
home None = 0
home (Some b) = 1

-- i is one of the n from off on
abbrev pub InRun : ℕ → ℕ → ℕ → Type 0
InRun off n i = (off ≤ i) × (i < off + n)

-- no cell but those that P names has changed, and just those are at home that were
pub record OnlyAt (P : ℕ → Type 0) (old new : List (Option ℕ)) : Type 0 where
  pub length : length new ≡ length old
  pub home : (i : ℕ) → home (get_or new i None) ≡ home (get_or old i None)
  pub kept : (i : ℕ) → (P i → ⊥) → get_or new i None ≡ get_or old i None

-- ---- what the calls find and leave

-- the cells stand for some pool
pub record IsPoolAt (cells : List (Option ℕ)) (at : ℕ) : Type 0 where
  pub p : PlainView
  pub stands : StandsFor cells at p

-- and a block can be taken of it
pub record CanTake (cells : List (Option ℕ)) (at : ℕ) : Type 0 where
  pub p : PlainView
  pub stands : StandsFor cells at p
  pub room : HasRoom p.pool

-- and the block at an offset is in use, and its cells are at home
pub record CanGive (cells : List (Option ℕ)) (at off : ℕ) : Type 0 where
  pub p : PlainView
  pub stands : StandsFor cells at p
  pub used : Has off (blocks_of p.pool)
  pub home : AtHome cells (at + off) (size_of p.pool)

-- the next block was taken of the pool p
pub record TakenOf (new : List (Option ℕ)) (at : ℕ) (p : PlainView) (off : ℕ) (full : Bool) : Type 0 where
  pub stands : StandsFor new at (after_taking p)
  pub next : off ≡ next_block p.pool
  pub now_full : IsTrue full ↔ IsFull (after_take p.pool)
  pub live : live_of (after_take p.pool) ≡ live_of p.pool + 1
  pub block : Inserted off (blocks_of p.pool) (blocks_of (after_take p.pool))
  pub inside : IsBlock p.pool.class off
  pub home : AtHome new (at + off) (size_of p.pool)

-- the block at an offset came back to the pool p
pub record GivenOf (new : List (Option ℕ)) (at : ℕ) (p : PlainView) (off : ℕ) (full empty : Bool) : Type 0 where
  pub stands : StandsFor new at (after_giving p off)
  pub was_full : IsTrue full ↔ IsFull p.pool
  pub now_empty : IsTrue empty ↔ IsEmpty (after_give p.pool off)
  pub live : live_of p.pool ≡ live_of (after_give p.pool off) + 1
  pub block : Removed off (blocks_of p.pool) (blocks_of (after_give p.pool off))
  pub inside : IsBlock p.pool.class off

-- the cells that giving back the block at an offset writes
abbrev pub InHeaderOrBlock : ℕ → ℕ → ℕ → Type 0
InHeaderOrBlock at off i = InRun at HEADER_BYTES i ⊎ InRun (at + off) 8 i
