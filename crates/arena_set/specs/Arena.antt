-- One arena: its pools, and what is lent of them.
use Rattle.std.specs.Prelude.{◌≡◌, ℕ, ◌+◌, ◌-◌, ◌<◌, ◌≤◌, List, ◌∷◌, length, map, get_or, set, replicate, Option, Some, None}
use Rattle.raw_region.specs.declared.maker.Maker.{Maker}
use Rattle.raw_region.specs.Region.{RegionView, PieceView}
use Rattle.extents.specs.Sums.{tally}
use Rattle.extents.specs.Extent.{Extent, covers}
use Rattle.layout_model.specs.declared.measures.TheConstants.{HEADER_BYTES, POOL_BYTES}
use Rattle.layout_model.specs.Geometry.{first_pool, pool_offset, total_at, IsArenaRegion}
use Rattle.layout_model.specs.Pool.{size_of, blocks_of, next_block, after_take, after_give, IsPool}
use Rattle.layout_model.specs.Plain.{StandsFor}
use Rattle.pool_core.specs.Calls.{home, InRun}
use Rattle.links.specs.Nodes.{times}
use Rattle.arena_set.specs.Started.{Started, plain_of, started_from}
use Rattle.arena_set.specs.Flat.{AllSome, flat}
use Rattle.arena_set.specs.FreeChain.{numbers_from}

-- an arena: its region, its free pools, the next one first, and each of its pools that was started
pub record ArenaView : Type 0 where
  pub region : RegionView
  pub free : List ℕ
  pub pools : List (Option Started)

-- an arena of which no pool was taken
abbrev pub new_arena : RegionView → ArenaView
new_arena region = record { region = region; free = numbers_from 0 (total_at region.base); pools = replicate (total_at region.base) None }

-- the block of s bytes at an offset of the pool that begins at an offset of the region
abbrev pub block_extent : ℕ → Maker → ℕ → ℕ → ℕ → Extent
block_extent base maker at s off = record { place = base + at + off; len = s; maker = maker }

-- the blocks in use of pool k
abbrev pub pool_loans : ℕ → Maker → ℕ → Started → List Extent
pool_loans base maker k s = map (block_extent base maker (pool_offset base k) (size_of s.pool)) (blocks_of s.pool)

-- the blocks in use of an arena
abbrev pub arena_loans : ArenaView → List Extent
arena_loans a = flat (pool_loans a.region.base a.region.maker) 0 a.pools

-- each byte is at home or in just one of the extents
abbrev pub AccountsFor : RegionView → List Extent → Type 0
AccountsFor r es = (i : ℕ) → i < length r.cells → home (get_or r.cells i None) + tally (covers (r.base + i)) es ≡ 1

-- 1 for a pool that was started
abbrev pub started_times : Option Started → ℕ
started_times None = 0
started_times (Some s) = 1

-- the pool of a started one is sound
abbrev pub IsSound : Started → Type 0
IsSound s = IsPool s.pool

-- the pools are in the region's bytes
abbrev pub AllStand : RegionView → List (Option Started) → Type 0
AllStand r pools = (k : ℕ) (s : Started) → get_or pools k None ≡ Some s → StandsFor r.cells (pool_offset r.base k) (plain_of s)

-- free pools are distinct and not started, just the blocks in use are lent, and the bytes stand for the pools
pub record IsArena (a : ArenaView) : Type 0 where
  pub region : IsArenaRegion a.region
  pub count : length a.pools ≡ total_at a.region.base
  pub free : (k : ℕ) → times k a.free + started_times (get_or a.pools k None) ≤ 1
  pub below : (k : ℕ) → 1 ≤ times k a.free → k < length a.pools
  pub sound : AllSome IsSound a.pools
  pub accounts : AccountsFor a.region (arena_loans a)
  pub stands : AllStand a.region a.pools

-- an arena by its region, its free pools and the numbers that the others were started under: the bytes tell the rest
abbrev pub arena_view : RegionView → List ℕ → List (Option ℕ) → ArenaView
arena_view region free numbers = record { region = region; free = free; pools = started_from region.cells (first_pool region.base) numbers }

-- ---- what calls do to one arena

-- no cell has changed but the eight of the word for the next pool in pool k's header
abbrev pub OnlyNext : ArenaView → ArenaView → ℕ → Type 0
OnlyNext a b k = (i : ℕ) → (InRun (pool_offset a.region.base k + 16) 8 i → ⊥) → get_or b.region.cells i None ≡ get_or a.region.cells i None

-- b is a after pool k came back
pub record PoolReturns (a b : ArenaView) (k : ℕ) : Type 0 where
  pub base : b.region.base ≡ a.region.base
  pub maker : b.region.maker ≡ a.region.maker
  pub long : length b.region.cells ≡ length a.region.cells
  pub free : b.free ≡ k ∷ a.free
  pub pools : b.pools ≡ set a.pools k None
  pub only : OnlyNext a b k

-- b is a with pool k as t. No cell has changed but those of pool k
pub record PoolChange (a b : ArenaView) (k : ℕ) (t : Started) : Type 0 where
  pub base : b.region.base ≡ a.region.base
  pub maker : b.region.maker ≡ a.region.maker
  pub long : length b.region.cells ≡ length a.region.cells
  pub free : b.free ≡ a.free
  pub pools : b.pools ≡ set a.pools k (Some t)
  pub beside : (i : ℕ) → (InRun (pool_offset a.region.base k) POOL_BYTES i → ⊥) → get_or b.region.cells i None ≡ get_or a.region.cells i None

-- no cell has changed but those of pool k's header
abbrev pub OnlyHeader : ArenaView → ArenaView → ℕ → Type 0
OnlyHeader a b k = (i : ℕ) → (InRun (pool_offset a.region.base k) HEADER_BYTES i → ⊥) → get_or b.region.cells i None ≡ get_or a.region.cells i None

-- the pool after its next block was lent
abbrev pub after_lending : Started → Started
after_lending s = record s { pool = after_take s.pool }

-- the pool after the block at an offset came home
abbrev pub after_mending : Started → ℕ → Started
after_mending s off = record s { pool = after_give s.pool off }

-- where the block that pool k gives next stands in the region
abbrev pub next_offset : ArenaView → ℕ → Started → ℕ
next_offset a k s = pool_offset a.region.base k + next_block s.pool

-- where the piece stands in pool k
abbrev pub piece_offset : ArenaView → ℕ → PieceView → ℕ
piece_offset a k piece = piece.place - (a.region.base + pool_offset a.region.base k)
