-- Slots with guarded blocks, the blocks that they stand for, and the memory that these lie in.
use Rattle.std.specs.Prelude.{◌≡◌, ℕ, ◌%◌, List, [], ◌∷◌, ◌++◌, length, map, get_or, Option, Some, None}
use Rattle.std.specs.Option.{option_map}
use Rattle.block_model.specs.Block.{size_of}
use Rattle.raw_region.specs.Region.{PieceView}
use Rattle.extents.specs.Extent.{Extent, AreApart}
use Rattle.extents.specs.Sums.{tally, AllIn, Has}
use Rattle.debug_guard.specs.Guard.{Guard, guard_extent, piece_of}
use Rattle.domain_api.specs.Held.{DomainsView, AreSound}
use Rattle.event_model.specs.Blocks.{in_raw, Block}
use Rattle.block_store.specs.Homes.{Places, home_at}

-- ---- one slot

-- the block that a guard is, with the memory of its piece
abbrev pub block_of : Places → Guard → Block
block_of places g = record {
  body = g.body;
  home = home_at places g.place;
  len = length (piece_of g).bytes;
}

-- the block of a slot
abbrev pub block_in : Places → Option Guard → Option Block
block_in places slot = option_map (block_of places) slot

-- the memory that a slot's block lies in
abbrev pub piece_in : Option Guard → Option PieceView
piece_in slot = option_map piece_of slot

-- 1 for a slot with a block
abbrev pub blocks_in : Option Guard → ℕ
blocks_in None = 0
blocks_in (Some g) = 1

-- the bytes of its block's data
abbrev pub data_in : Option Guard → ℕ
data_in None = 0
data_in (Some g) = size_of g.body

-- ---- all slots

-- the blocks of all slots
abbrev pub blocks_of : Places → List (Option Guard) → List (Option Block)
blocks_of places slots = map (block_in places) slots

-- the memory of each slot's block
abbrev pub pieces_of : List (Option Guard) → List (Option PieceView)
pieces_of slots = map piece_in slots

-- the memory of all blocks
abbrev pub extents_of : List (Option Guard) → List Extent
extents_of [] = []
extents_of (None ∷ slots) = extents_of slots
extents_of (Some g ∷ slots) = guard_extent g ∷ extents_of slots

-- ---- what always holds

-- the blocks lie in just these extents, which are apart
pub record IsStored (slots : List (Option Guard)) (loans : List Extent) : Type 0 where
  pub lent : AllIn (extents_of slots) loans
  pub all : (f : Extent → ℕ) → tally f (extents_of slots) ≡ tally f loans
  pub apart : AreApart loans
  pub aligned : (i : ℕ) (g : Guard) → get_or slots i None ≡ Some g → g.place % 16 ≡ 0

-- all blocks of both heaps
abbrev pub loans_of : DomainsView → List Extent
loans_of d = d.heap.loans ++ d.raws

-- the slots have just the blocks of both heaps, and no raw region is in a pool
pub record IsStore (slots : List (Option Guard)) (d : DomainsView) : Type 0 where
  pub stored : IsStored slots (loans_of d)
  pub sound : AreSound d.heap d.raws
  pub raw_homes : (e : Extent) → Has e d.raws → home_at d.heap.places e.place ≡ in_raw
