-- What a request for a raw block gets.
use Rattle.std.specs.Prelude.{◌≡◌, ℕ, ◌%◌, max, List, length, Option, None, Some}
use Rattle.raw_region.specs.Region.{PieceView}
use Rattle.extents.specs.Extent.{Extent, piece_extent, LiesIn, MeetsNone}
use Rattle.extents.specs.Sums.{Inserted}
use Rattle.sources.specs.Source.{SourceView}

-- how many refusals of the source an answer stands for: one where it has no piece
abbrev pub refusals_of : Option PieceView → ℕ
refusals_of None = 1
refusals_of (Some piece) = 0

-- a block of n bytes, or of 1 byte where n is 0: it lies in the source's window, meets nothing that was out, and is
-- now among the loans
pub record IsBlock (n : ℕ) (piece : PieceView) (old new : List Extent) (seen : SourceView ℕ) : Type 0 where
  pub len : length piece.bytes ≡ max n 1
  pub aligned : piece.place % 16 ≡ 0
  pub inside : LiesIn (piece_extent piece) seen.window
  pub apart : MeetsNone (piece_extent piece) seen.out
  pub added : Inserted (piece_extent piece) old new

-- the answer to a request for n bytes: a block, or no piece, and then the loans stay
abbrev pub IsGot : ℕ → Option PieceView → List Extent → List Extent → SourceView ℕ → Type 0
IsGot n None old new seen = new ≡ old
IsGot n (Some piece) old new seen = IsBlock n piece old new seen
