-- Pools in bytes: which cells stand for which pool.
use Rattle.std.specs.Prelude.{◌≡◌, ℕ, zero, suc, ◌+◌, ◌-◌, ◌*◌, ◌/◌, ◌%◌, ◌<◌, ◌≤◌, List, [], ◌∷◌, length, map, get_or, Option}
use Rattle.raw_region.specs.Cells.{AtHome, word_at}
use Rattle.extents.specs.Sums.{Has}
use Rattle.layout_model.specs.declared.measures.TheConstants.{HEADER_BYTES, POOL_BYTES}
use Rattle.layout_model.specs.Sizes.{size_of_class}
use Rattle.layout_model.specs.Pool.{PoolView, new_pool, size_of, live_of, after_take, after_give, IsPool}

-- a pool, with the addresses of the next pool of its list and of the one before it, or 0
pub record PlainView : Type 0 where
  pub pool : PoolView
  pub next : ℕ
  pub prev : ℕ

-- a pool of which no block was taken yet, in no list
abbrev pub new_plain : ℕ → ℕ → PlainView
new_plain arena class = record { pool = new_pool arena class; next = 0; prev = 0 }

-- the pool after its next block was taken
abbrev pub after_taking : PlainView → PlainView
after_taking p = record { pool = after_take p.pool; next = p.next; prev = p.prev }

-- the pool after a block was given back
abbrev pub after_giving : PlainView → ℕ → PlainView
after_giving p off = record { pool = after_give p.pool off; next = p.next; prev = p.prev }

-- the pool with other links
abbrev pub with_next : PlainView → ℕ → PlainView
with_next p place = record { pool = p.pool; next = place; prev = p.prev }

abbrev pub with_prev : PlainView → ℕ → PlainView
with_prev p place = record { pool = p.pool; next = p.next; prev = place }

-- ---- the bytes

-- the six words of the header that begins at an offset. This does not unfold by itself, so that goals stay short
unfoldable pub header_of : List (Option ℕ) → ℕ → List ℕ
header_of cells at = map (λ k. word_at cells (at + 8 * k)) (0 ∷ 1 ∷ 2 ∷ 3 ∷ 4 ∷ 5 ∷ [])

-- the first of some offsets, or 0
abbrev pub head_of : List ℕ → ℕ
head_of [] = 0
head_of (o ∷ os) = o

-- two fields of four bytes
abbrev pub pair_of : ℕ → ℕ → ℕ
pair_of low high = low + 4294967296 * high

-- the words of a pool's header: live blocks, head of the free list, next pool, previous pool, arena and class, next offset and the greatest one
abbrev pub words_of : ℕ → PlainView → List ℕ
words_of live p = live ∷ head_of p.pool.free ∷ p.next ∷ p.prev ∷ pair_of p.pool.arena p.pool.class ∷ pair_of p.pool.next (POOL_BYTES - size_of p.pool) ∷ []

abbrev pub header_for : PlainView → List ℕ
header_for p = words_of (live_of p.pool) p

-- each free block begins with the offset of the one that is free after it, and the last one with 0
abbrev pub AreLinked : List (Option ℕ) → ℕ → List ℕ → Type 0
AreLinked cells at [] = Unit {0}
AreLinked cells at (o ∷ os) = (word_at cells (at + o) ≡ head_of os) × AreLinked cells at os

-- the 16,384 cells from `at` on stand for the pool
pub record StandsFor (cells : List (Option ℕ)) (at : ℕ) (p : PlainView) : Type 0 where
  pub pool : IsPool p.pool
  pub arena : p.pool.arena < 4294967296
  pub inside : at + POOL_BYTES ≤ length cells
  pub header : header_of cells at ≡ header_for p
  pub linked : AreLinked cells at p.pool.free
  -- the header, the free blocks and all from the next offset on are at home
  pub home : AtHome cells at HEADER_BYTES
  pub free : (o : ℕ) → Has o p.pool.free → AtHome cells (at + o) (size_of p.pool)
  pub rest : AtHome cells (at + p.pool.next) (POOL_BYTES - p.pool.next)

-- ---- which pool the cells stand for

-- n free offsets, the first of which is head
abbrev pub free_from : List (Option ℕ) → ℕ → ℕ → ℕ → List ℕ
free_from cells at zero head = []
free_from cells at (suc n) head = head ∷ free_from cells at n (word_at cells (at + head))

-- a header's words as a pool: those of its blocks that were taken and are not live are free
abbrev pub pool_of_words : List (Option ℕ) → ℕ → List ℕ → PlainView
pool_of_words cells at ws =
    let class : ℕ = get_or ws 4 0 / 4294967296 in
    let next : ℕ = get_or ws 5 0 % 4294967296 in
    record {
      pool = record { class = class; arena = get_or ws 4 0 % 4294967296; free = free_from cells at ((next - HEADER_BYTES) / (size_of_class class) - get_or ws 0 0) (get_or ws 1 0); next = next };
      next = get_or ws 2 0;
      prev = get_or ws 3 0;
    }

-- the pool that the cells from `at` on stand for, if they stand for one
unfoldable pub plain_at : List (Option ℕ) → ℕ → PlainView
plain_at cells at = pool_of_words cells at (header_of cells at)
