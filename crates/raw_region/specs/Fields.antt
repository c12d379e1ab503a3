-- What always holds of the fields of a region and of a piece.
use Rattle.std.specs.Prelude.{◌≡◌, ◌+◌, ◌^◌, ◌≤◌, ◌++◌, length, map, replicate, Some, None}
use Rattle.raw_region.specs.Cells.{at_home}
use Rattle.raw_region.specs.declared.region.Region.TheInside.{Inside as RegionFields}
use Rattle.raw_region.specs.declared.piece.Piece.TheInside.{Inside as PieceFields}

pub record IsRegion (r : RegionFields) : Type 0 where
  -- the cells are those of the memory that the shell waits for
  pub start : r.start.first ≡ r.cells.at
  pub shell : (r.shell.first ≡ r.cells.at) × (r.shell.len ≡ r.len)
  pub length : length r.cells.cells ≡ r.len
  pub some : 1 ≤ r.len
  pub addresses : r.base + r.len ≤ 2 ^ 48

pub record IsPiece (p : PieceFields) : Type 0 where
  pub start : p.start.first ≡ p.cells.at
  -- of the region's cells it has those from its offset on
  pub cells : p.cells.cells ≡ replicate p.off None ++ map Some (at_home p.cells.cells)
  pub length : length (at_home p.cells.cells) ≡ p.len
  pub some : 1 ≤ p.len
  pub addresses : p.base + p.off + p.len ≤ 2 ^ 48
