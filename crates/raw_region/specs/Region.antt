-- What contracts see of a region and of a piece.
use Rattle.std.specs.Prelude.{ℕ, List, length, Option}
use Rattle.std.specs.List.{refill}
use Rattle.raw_region.specs.declared.maker.Maker.{Maker}

-- a region. Its length is that of its cells
pub record RegionView : Type 0 where
  pub base : ℕ
  pub maker : Maker
  pub cells : List (Option ℕ)

-- a piece. Its length is that of its bytes
pub record PieceView : Type 0 where
  pub place : ℕ
  pub maker : Maker
  pub bytes : List ℕ

-- the piece, with other bytes, of which it takes as many as it has
abbrev pub with_bytes : PieceView → List ℕ → PieceView
with_bytes piece bytes = record {
  place = piece.place;
  maker = piece.maker;
  bytes = refill (length piece.bytes) piece.bytes bytes;
}
