-- A block inside a piece of memory.
use Rattle.std.specs.Prelude.{◌≡◌, ℕ, ◌+◌, ◌-◌, ◌<◌, ◌≤◌, ◌^◌, Bool, List, ◌++◌, length, take, drop, replicate, if◌then◌else◌}
use Rattle.std.specs.Int.{to_be_bytes, w64}
use Rattle.raw_region.specs.declared.maker.Maker.{Maker}
use Rattle.raw_region.specs.Region.{PieceView}
use Rattle.mem_base.specs.declared.trace.Letter.{Letter}
use Rattle.block_model.specs.Block.{body_of, image_of, new_byte}
use Rattle.extents.specs.Extent.{Extent, piece_extent}

-- a block inside a piece: where the piece lies, the maker of its region, the block's body, and the piece's bytes
-- behind the block
pub record Guard : Type 0 where
  pub place : ℕ
  pub maker : Maker
  pub body : List ℕ
  pub rest : List ℕ

-- the piece that the block lies in
abbrev pub piece_of : Guard → PieceView
piece_of g = record { place = g.place; maker = g.maker; bytes = image_of g.body ++ g.rest }

-- the stretch of memory of that piece
abbrev pub guard_extent : Guard → Extent
guard_extent g = piece_extent (piece_of g)

-- the bytes in front of the body of a block with n bytes of data
unfoldable pub size_word : ℕ → List ℕ
size_word n = to_be_bytes w64 n

-- what a byte of new data holds: 00 where the data is to be zero, else CD
abbrev pub fill_of : Bool → ℕ
fill_of zero = if zero then 0 else new_byte

-- the body of letter v with n bytes of data, the first of which are so many of these and the rest `new`
abbrev pub filled : Letter → ℕ → ℕ → ℕ → List ℕ → List ℕ
filled v n kept new bytes = body_of v (take kept bytes ++ replicate (n - kept) new)

-- the block with n bytes of data at the start of a piece
abbrev pub guard_at : PieceView → ℕ → Guard
guard_at p n = record {
  place = p.place;
  maker = p.maker;
  body = take (n + 16) (drop 8 p.bytes);
  rest = drop (n + 24) p.bytes;
}

-- the piece has room for the block, behind its size word
pub record IsDressed (p : PieceView) (n : ℕ) : Type 0 where
  pub word : take 8 p.bytes ≡ size_word n
  pub room : n + 24 ≤ length p.bytes
  pub small : length p.bytes < 2 ^ 63

-- the bytes with these from an index on
abbrev pub splice : List ℕ → ℕ → List ℕ → List ℕ
splice body at bytes = take at body ++ bytes ++ drop (at + length bytes) body
