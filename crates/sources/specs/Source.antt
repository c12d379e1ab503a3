-- What a source does at a request, and what it may tell of itself.
use Rattle.std.specs.Prelude.{◌≡◌, ℕ, ◌%◌, ◌≤◌, List, [], ◌∷◌, length, Option, None, Some, Result, Ok, Err}
use Rattle.mem_base.specs.Plan.{Plan}
use Rattle.raw_region.specs.Cells.{AllHome}
use Rattle.raw_region.specs.Region.{RegionView}
use Rattle.extents.specs.Extent.{Extent, Window, region_extent, LiesIn, MeetsNone}
use Rattle.extents.specs.Sums.{Inserted}
use Rattle.sources.specs.declared.source.AskError.{AskError}
use Rattle.sources.specs.declared.source.AskError.TheVariants.{Refused, OutOfMemory}

-- how many refusals an answer is
abbrev pub refusals : {T : Type 0} → Result T AskError → ℕ
refusals (Ok region) = 0
refusals (Err Refused) = 1
refusals (Err OutOfMemory) = 0

-- the source grants a region: it is whole, lies in the window, and meets none that is out, among which it now is
pub record Granted (region : RegionView) (window : Window) (old new : List Extent) : Type 0 where
  pub home : AllHome region.cells
  pub inside : LiesIn (region_extent region) window
  pub apart : MeetsNone (region_extent region) old
  pub added : Inserted (region_extent region) old new

-- the region is as long as an arena, and starts at a page of 4,096 bytes that is not the first one
pub record IsArena (region : RegionView) : Type 0 where
  pub len : length region.cells ≡ 1048576
  pub aligned : region.base % 4096 ≡ 0
  pub somewhere : 1 ≤ region.base

-- the region has that length, and starts at a multiple of 16
pub record IsRawRegion (asked : ℕ) (region : RegionView) : Type 0 where
  pub len : length region.cells ≡ asked
  pub aligned : region.base % 16 ≡ 0

-- the shape after a call of `shape`: it is taken where a shape is told and nothing is out
abbrev pub shape_after : {S : Type 0} → List Extent → S → Option S → Option S
shape_after out asked None = None
shape_after [] asked (Some old) = Some asked
shape_after (e ∷ out) asked (Some old) = Some old

-- the arguments of an arena source's `shape`
pub record ArenaShape : Type 0 where
  pub max : ℕ
  pub skew : ℕ

-- all that contracts see of a source
pub record SourceView (S : Type 0) : Type 0 where
  -- how many requests there were, and how many of them were refused
  pub asked : ℕ
  pub refused : ℕ
  -- the addresses that regions have
  pub window : Window
  -- the regions that are out
  pub out : List Extent
  -- which requests will be refused, by their numbers from 1 on, where the source tells it
  pub plan : Plan
  -- the arguments of the last `shape` that was taken, where the source tells it
  pub shape : Option S
