-- Stretches of memory. A region that is out at a source and a block that is lent of a heap are both seen as one.
use Rattle.std.specs.Prelude.{◌≡◌, ℕ, ◌+◌, ◌≤◌, ◌==◌, ◌⊎◌, nat_le, if◌then◌else◌, List, length}
use Rattle.raw_region.specs.declared.maker.Maker.{Maker}
use Rattle.raw_region.specs.Region.{RegionView, PieceView}
use Rattle.extents.specs.Sums.{tally}

-- a stretch of the memory that the maker names: its first address, and how many bytes it has
pub record Extent : Type 0 where
  pub place : ℕ
  pub len : ℕ
  pub maker : Maker

-- the extent of a region
abbrev pub region_extent : RegionView → Extent
region_extent r = record { place = r.base; len = length r.cells; maker = r.maker }

-- the extent of a piece
abbrev pub piece_extent : PieceView → Extent
piece_extent p = record { place = p.place; len = length p.bytes; maker = p.maker }

-- 1 where the extent has the address x, else 0
abbrev pub covers : ℕ → Extent → ℕ
covers x e = if nat_le e.place x then (if nat_le (e.place + e.len) x then 0 else 1) else 0

-- 1 where the extent begins at the address x, else 0
abbrev pub begins : ℕ → Extent → ℕ
begins x e = if e.place == x then 1 else 0

-- no address is in two of them
abbrev pub AreApart : List Extent → Type 0
AreApart es = (x : ℕ) → tally (covers x) es ≤ 1

-- no address of e is in any of them
abbrev pub MeetsNone : Extent → List Extent → Type 0
MeetsNone e es = (x : ℕ) → covers x e ≡ 1 → tally (covers x) es ≡ 0

-- one of the two ends where the other begins, or before
abbrev pub Apart : Extent → Extent → Type 0
Apart a b = (a.place + a.len ≤ b.place) ⊎ (b.place + b.len ≤ a.place)

-- a range of addresses: the first one, and how many there are
pub record Window : Type 0 where
  pub start : ℕ
  pub length : ℕ

-- 1 where the window has the address x, else 0
abbrev pub spans : ℕ → Window → ℕ
spans x w = if nat_le w.start x then (if nat_le (w.start + w.length) x then 0 else 1) else 0

-- the extent is in the window
abbrev pub LiesIn : Extent → Window → Type 0
LiesIn e w = (w.start ≤ e.place) × (e.place + e.len ≤ w.start + w.length)

-- no address is in both windows
abbrev pub AreDisjoint : Window → Window → Type 0
AreDisjoint v w = (x : ℕ) → spans x v + spans x w ≤ 1
