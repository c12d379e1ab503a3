-- Where live blocks lie.
use Rattle.std.specs.Prelude.{◌≡◌, ℕ, ◌+◌, ◌%◌, ◌<◌, ◌≤◌, ◌==◌, nat_le, if◌then◌else◌, List, [], ◌∷◌, ◌++◌}
use Rattle.std.specs.Prelude.{length, take, get_or, is_some, Option, Some, None}
use Rattle.mem_base.specs.declared.texts.TextId.{TextId}
use Rattle.block_model.specs.Block.{image_of}
use Rattle.raw_region.specs.Region.{PieceView}
use Rattle.extents.specs.Extent.{Extent, piece_extent}
use Rattle.extents.specs.Sums.{tally, Has}
use Rattle.debug_guard.specs.Guard.{Guard, piece_of}
use Rattle.event_model.specs.Blocks.{Block}
use Rattle.block_store.specs.Store.{StoreView, block_at}
use Rattle.block_store.specs.declared.spot.Spot.{Spot}

-- blocks by the numbers of their names, the memory that they lie in, and the regions that are held
pub record Living : Type 0 where
  pub count : ℕ
  pub block_of : TextId → Option Block
  pub pieces : List (Option PieceView)
  pub regions : List Extent

-- the blocks of a store
abbrev pub living : StoreView → Living
living s = record {
  count = length s.blocks;
  block_of = λ name. block_at s name.0;
  pieces = s.pieces;
  regions = s.arenas ++ s.raws;
}

-- ---- one spot

-- the extent is in one of the regions, and of its memory
pub record LiesInOne (e : Extent) (regions : List Extent) : Type 0 where
  pub region : Extent
  pub is : Has region regions
  pub maker : region.maker ≡ e.maker
  pub inside : (region.place ≤ e.place) × (e.place + e.len ≤ region.place + region.len)

-- the spot of a live block: the memory there lies in a region that is held, and begins with the block's image
pub record IsSpot (all : Living) (spot : Spot) : Type 0 where
  pub known : spot.name.0 < all.count
  pub piece : PieceView
  pub memory : get_or all.pieces spot.name.0 None ≡ Some piece
  pub place : spot.place ≡ piece.place
  pub len : spot.len ≡ length piece.bytes
  pub aligned : spot.place % 16 ≡ 0
  pub held : LiesInOne (piece_extent piece) all.regions
  pub block : Block
  pub live : all.block_of spot.name ≡ Some block
  pub room : length block.body + 8 ≤ spot.len
  pub image : take (length block.body + 8) piece.bytes ≡ image_of block.body

-- ---- all spots

-- 1 where the spot is of the name with that number, else 0
abbrev pub names : ℕ → Spot → ℕ
names i spot = if spot.name.0 == i then 1 else 0

-- 1 where the spot has the address, else 0
abbrev pub has_address : ℕ → Spot → ℕ
has_address address spot =
    if nat_le spot.place address then (if nat_le (spot.place + spot.len) address then 0 else 1) else 0

-- 1 where the name with that number has a block, else 0
abbrev pub live_at : Living → TextId → ℕ
live_at all name = if is_some (all.block_of name) then 1 else 0

-- the numbers of the spots' names go up, from that number on
abbrev pub GoUpFrom : ℕ → List Spot → Type 0
GoUpFrom k [] = Unit {0}
GoUpFrom k (spot ∷ spots) = (k ≤ spot.name.0) × GoUpFrom (spot.name.0 + 1) spots

-- each spot is that of a live block, each live block has one, no two of them meet, and they stand in the order
-- of their names' numbers
pub record AreSpots (all : Living) (spots : List Spot) : Type 0 where
  pub each : (spot : Spot) → Has spot spots → IsSpot all spot
  pub one : (name : TextId) → name.0 < all.count → tally (names name.0) spots ≡ live_at all name
  pub apart : (address : ℕ) → tally (has_address address) spots ≤ 1
  pub ordered : GoUpFrom 0 spots

-- ---- as they are listed

-- the spot of this block, in the slot with that number
abbrev pub spot_at : ℕ → Guard → Spot
spot_at i g = record { name = record { 0 = i }; place = g.place; len = length (piece_of g).bytes }

-- the spots of slots, the first of which has that number
abbrev pub spots_from : ℕ → List (Option Guard) → List Spot
spots_from i [] = []
spots_from i (None ∷ slots) = spots_from (i + 1) slots
spots_from i (Some g ∷ slots) = spot_at i g ∷ spots_from (i + 1) slots
