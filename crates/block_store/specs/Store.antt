-- What contracts see of a store, and what one call does to it.
use Rattle.std.specs.Prelude.{◌≡◌, ◌≢◌, ℕ, ◌-◌, Bool, List, get_or, replicate, slice_set, sum_by, [], Option}
use Rattle.std.specs.Prelude.{Some, None}
use Rattle.py_heap.specs.Heap.{regions_of}
use Rattle.mem_base.specs.Name.{Name}
use Rattle.mem_base.specs.declared.reply.Counts.{Counts}
use Rattle.mem_base.specs.declared.reply.Reply.{Reply}
use Rattle.mem_base.specs.declared.reply.View.{View}
use Rattle.block_model.specs.Block.{size_of}
use Rattle.raw_region.specs.Region.{PieceView}
use Rattle.extents.specs.Extent.{Extent}
use Rattle.layout_model.specs.Asks.{FitsRequest}
use Rattle.layout_model.specs.Layout.{Layout, empty_layout}
use Rattle.layout_model.specs.View.{shape_of}
use Rattle.debug_guard.specs.Guard.{Guard}
use Rattle.domain_api.specs.Held.{DomainsView}
use Rattle.domain_api.specs.declared.answers.Asked.{Asked}
use Rattle.event_model.specs.Blocks.{Block, pool_times, raw_times}
use Rattle.event_model.specs.Memory.{SizedCall, Turn, sized_request, sized_turn}
use Rattle.event_model.specs.Replies.{plain_reply}
use Rattle.block_store.specs.Slots.{blocks_of, pieces_of}

-- blocks by number, and the memory that they lie in
pub record StoreView : Type 0 where
  -- the block with each number
  pub blocks : List (Option Block)
  -- the memory of the block with each number
  pub pieces : List (Option PieceView)
  -- the pools and arenas of the small blocks
  pub layout : Layout
  -- the arenas that are held
  pub arenas : List Extent
  -- the raw regions that are held
  pub raws : List Extent

-- a store of so many numbers, none of which has a block
abbrev pub empty_store : ℕ → StoreView
empty_store count = record {
  blocks = replicate count None;
  pieces = replicate count None;
  layout = empty_layout;
  arenas = [];
  raws = [];
}

-- what slots and domains stand for
abbrev pub view_of : List (Option Guard) → DomainsView → StoreView
view_of slots d = record {
  blocks = blocks_of d.heap.places slots;
  pieces = pieces_of slots;
  layout = d.heap.layout;
  arenas = regions_of d.heap;
  raws = d.raws;
}

-- the block with that number
abbrev pub block_at : StoreView → ℕ → Option Block
block_at s i = get_or s.blocks i None

-- the memory of the block with that number
abbrev pub piece_at : StoreView → ℕ → Option PieceView
piece_at s i = get_or s.pieces i None

-- ---- one call

-- an operation was done on what number i held and on the layout, with this reply; each other block lies where
-- it lay
pub record IsTurn (i : ℕ) (f : Layout → Option Block → Turn) (old new : StoreView) (reply : Reply) : Type 0 where
  pub blocks : new.blocks ≡ slice_set old.blocks i (f old.layout (block_at old i)).block
  pub layout : new.layout ≡ (f old.layout (block_at old i)).layout
  pub answer : (texts : List Name) → plain_reply texts reply ≡ (f old.layout (block_at old i)).answer
  pub others : (j : ℕ) → j ≢ i → piece_at new j ≡ piece_at old j

-- a call for a block, by a caller that owns the lock or not, with these answers of the sources
abbrev pub sized_by : SizedCall → Bool → Asked → Layout → Option Block → Turn
sized_by call locked asked = sized_turn call locked asked.arena asked.raw

-- the answers fit what that call asks for, on what the name with that number holds
abbrev pub FitsCall : StoreView → ℕ → SizedCall → Bool → Asked → Type 0
FitsCall s i call locked asked =
    FitsRequest s.layout (sized_request call locked (block_at s i)) asked.arena asked.raw

-- the same regions are held
pub record HoldsTheSame (old new : StoreView) : Type 0 where
  pub arenas : new.arenas ≡ old.arenas
  pub raws : new.raws ≡ old.raws

-- ---- numbers

-- 1 for a block
abbrev pub live_in : Option Block → ℕ
live_in None = 0
live_in (Some b) = 1

-- the bytes of a block's data
abbrev pub size_in : Option Block → ℕ
size_in None = 0
size_in (Some b) = size_of b.body

-- 1 for a block in a pool
abbrev pub pooled_in : Option Block → ℕ
pooled_in None = 0
pooled_in (Some b) = pool_times b.home

-- 1 for a block in a raw region
abbrev pub raw_in : Option Block → ℕ
raw_in None = 0
raw_in (Some b) = raw_times b.home

-- the arenas granted, given back, out, and most out at once, and the blocks in pools
abbrev pub counts_in : StoreView → Counts
counts_in s = record {
  given = s.layout.given;
  back = s.layout.back;
  out = s.layout.given - s.layout.back;
  most = s.layout.most;
  pooled = sum_by pooled_in s.blocks;
}

-- the heap's shape
abbrev pub shape_in : StoreView → View
shape_in s = shape_of (sum_by pooled_in s.blocks) (sum_by raw_in s.blocks) s.layout
