-- The laws of layouts.
use Rattle.std.specs.Prelude.{◌≡◌, ◌↔◌, ℕ, ◌<◌, ◌≤◌, IsNone}
use Rattle.mem_base.specs.declared.history.Grant.{Grant}
use Rattle.mem_base.specs.declared.history.Grant.TheVariants.{Refused}
use Rattle.mem_base.specs.declared.history.Ask.{Ask}
use Rattle.layout_model.specs.declared.measures.TheConstants.{CLASSES, MAX_SMALL}
use Rattle.layout_model.specs.Sizes.{class_of}
use Rattle.layout_model.specs.Layout.{Layout}
use Rattle.layout_model.specs.Place.{place}
use Rattle.layout_model.specs.Unplace.{unplace}
use Rattle.layout_model.specs.Asks.{FitsClass, FitsRequest}
use Rattle.layout_model.specs.Asks.Request.{FromPools}
use Rattle.layout_model.specs.Sound.{IsSound}

-- a block that is placed with a fitting answer leaves a sound layout sound
abbrev pub PlaceKeepsSound : Type 0
PlaceKeepsSound = (l : Layout) (c : ℕ) (g : Grant) → c < CLASSES → FitsClass l c g → IsSound l → IsSound (place l c g).layout

-- a block that is freed leaves a sound layout sound, whatever pool it names
abbrev pub UnplaceKeepsSound : Type 0
UnplaceKeepsSound = (l : Layout) (k : ℕ) → IsSound l → IsSound (unplace l k)

-- with a fitting answer a block gets no pool exactly where an arena was refused, and then the layout stays
abbrev pub OnlyRefusalsPlaceNothing : Type 0
OnlyRefusalsPlaceNothing = (l : Layout) (c : ℕ) (g : Grant) → FitsClass l c g
    → (IsNone (place l c g).pool ↔ (g ≡ Refused)) × (g ≡ Refused → (place l c g).layout ≡ l)

-- answers that fit a small request have an arena answer that fits a block of the request's class
abbrev pub RequestsFitTheirClass : Type 0
RequestsFitTheirClass = (l : Layout) (m : ℕ) (g : Grant) (raw : Ask) → 1 ≤ m → m ≤ MAX_SMALL
    → FitsRequest l (FromPools m) g raw → FitsClass l (class_of m) g
