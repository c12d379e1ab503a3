-- The regions of the arenas, as parts of a list.
use Rattle.std.proofs.Common.{◌≡◌, ℕ, ◌+◌, List, [], ◌∷◌, map, Option, Some, None, refl, ap}
use Rattle.extents.specs.Extent.{region_extent}
use Rattle.layout_model.specs.Geometry.{held_extents}
use Rattle.arena_set.specs.Flat.{flat}
use Rattle.arena_set.specs.Arena.{ArenaView}
use Rattle.arena_set.specs.Set.{region_in}

pub regions_flat : (n : ℕ) (arenas : List (Option ArenaView)) → held_extents (map region_in arenas) ≡ flat (λ n a. region_extent a.region ∷ []) n arenas
regions_flat n [] = refl
regions_flat n (None ∷ arenas) = regions_flat (n + 1) arenas
regions_flat n (Some a ∷ arenas) = ap (λ l. region_extent a.region ∷ l) (regions_flat (n + 1) arenas)
