-- Blocks by name, and where each of them lies.
use Rattle.std.specs.Prelude.{ℕ, Bool, true, false, sum_by}
use Rattle.block_model.specs.Block.{Body, size_of}
use Rattle.layout_model.specs.Sizes.{class_of, size_of_class}
use Rattle.map_model.specs.Map.{Map}

-- where a block lies: in the pool with that number, or in a raw region of its own
pub data Home : Type 0 where
  in_pool : (number : ℕ) → Home
  in_raw : Home

-- a block: its bytes but for its size word, where it lies, and how many bytes of memory it has there
pub record Block : Type 0 where
  pub body : Body
  pub home : Home
  pub len : ℕ

abbrev pub Blocks : Type 0
Blocks = Map Block

-- how many bytes of memory a block has there that asked for m: those of the pool's blocks, or a region of just m
abbrev pub len_at : Home → ℕ → ℕ
len_at (in_pool k) m = size_of_class (class_of m)
len_at in_raw m = m

-- it lies in a pool
abbrev pub is_pooled : Home → Bool
is_pooled (in_pool k) = true
is_pooled in_raw = false

-- how many bytes of data the blocks have together
abbrev pub total_size : Blocks → ℕ
total_size bs = sum_by (λ b. size_of b.1.body) bs

-- 1 for a block in a pool
abbrev pub pool_times : Home → ℕ
pool_times (in_pool k) = 1
pool_times in_raw = 0

-- 1 for a block in a raw region
abbrev pub raw_times : Home → ℕ
raw_times (in_pool k) = 0
raw_times in_raw = 1

-- how many blocks lie in pools
abbrev pub pool_count : Blocks → ℕ
pool_count bs = sum_by (λ b. pool_times b.1.home) bs

-- how many lie in raw regions
abbrev pub raw_count : Blocks → ℕ
raw_count bs = sum_by (λ b. raw_times b.1.home) bs
