-- What an answer with a piece, or without one, says.
use Rattle.std.proofs.Common.{◌≡◌, ℕ, List, length, subst, arith, Option, Some, None}
use Rattle.raw_region.specs.Region.{PieceView}
use Rattle.extents.specs.Extent.{Extent}
use Rattle.extents.specs.Sums.{Inserted, Removed}
use Rattle.extents.proofs.CallerLemmas.{length_inserted}
use Rattle.sources.specs.Source.{SourceView}
use Rattle.raw_heap.specs.Heap.{IsGot, IsBlock}

module _ (n : ℕ) (old new : List Extent) (seen : SourceView ℕ) (answer : Option PieceView) (got : IsGot n answer old new seen) where
  pub got_block : (piece : PieceView) → answer ≡ Some piece → IsBlock n piece old new seen
  got_block piece is = subst (λ a. IsGot n a old new seen) is got

  pub got_none : answer ≡ None → new ≡ old
  got_none is = subst (λ a. IsGot n a old new seen) is got

-- as many loans as before, where one has come and gone
pub comes_and_goes : (e : Extent) (old mid new : List Extent) → Inserted e old mid → Removed e mid new → length new ≡ length old
comes_and_goes e old mid new i j = omega (arith, length_inserted e old mid i, length_inserted e new mid j)

-- also where as many loans were there as came and went meanwhile
pub comes_before_it_goes : (e : Extent) (old mid later new : List Extent) → Inserted e old mid → length later ≡ length mid → Removed e later new → length new ≡ length old
comes_before_it_goes e old mid later new i same j = omega (arith, length_inserted e old mid i, length_inserted e new later j)
