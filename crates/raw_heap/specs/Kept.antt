-- What a heap of raw blocks keeps: the region of each block, by its place.
use Rattle.std.specs.Prelude.{◌≡◌, ℕ, ◌≤◌, List, length, map}
use Rattle.raw_region.specs.Cells.{AreLent}
use Rattle.raw_region.specs.Region.{RegionView}
use Rattle.extents.specs.Extent.{Extent, AreApart}
use Rattle.extents.specs.Sums.{Has}

-- the block of an entry, which is its whole region
abbrev pub block_at : ℕ × RegionView → Extent
block_at e = record { place = e.0; len = length e.1.cells; maker = e.1.maker }

-- the blocks that are lent
abbrev pub blocks : List (ℕ × RegionView) → List Extent
blocks entries = map block_at entries

-- the region begins at the place, has a byte, and all its cells are lent
pub record IsLentWhole (place : ℕ) (region : RegionView) : Type 0 where
  pub base : place ≡ region.base
  pub some : 1 ≤ length region.cells
  pub lent : AreLent region.cells 0 (length region.cells)

-- each region is lent as a whole, and no two of them meet
pub record AreKept (entries : List (ℕ × RegionView)) : Type 0 where
  pub whole : (e : ℕ × RegionView) → Has e entries → IsLentWhole e.0 e.1
  pub apart : AreApart (blocks entries)
