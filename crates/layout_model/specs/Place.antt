-- Where a small block comes from.
use Rattle.std.specs.Prelude.{◌≡◌, ◌⊎◌, ℕ, ◌+◌, ◌-◌, max, ◌==◌, if◌then◌else◌, List, [], ◌∷◌, ◌++◌, length, get_or, set, Option, Some, None}
use Rattle.mem_base.specs.declared.history.Grant.{Grant}
use Rattle.mem_base.specs.declared.history.Grant.TheVariants.{NotAsked, Refused, Granted}
use Rattle.extents.specs.Sums.{Has}
use Rattle.layout_model.specs.Sizes.{capacity}
use Rattle.layout_model.specs.Layout.{Layout, Usable, Used}

-- the pool that has the block, or none, and the layout with it
pub record Placed : Type 0 where
  pub pool : Option ℕ
  pub layout : Layout

-- the pools of a class with free blocks, in order
abbrev pub pools_of_class : Layout → ℕ → List Used
pools_of_class l c = get_or l.used c []

-- p is a pool of class c: it has a free block and stands in the class's list, or it is full
abbrev pub HasPool : Layout → ℕ → Used → Type 0
HasPool l c p = Has p (pools_of_class l c)
    ⊎ ((get_or l.full p.pool None ≡ Some (record { class = c; arena = p.arena })) × (p.live ≡ capacity c))

-- pool k has class c
abbrev pub HasClass : Layout → ℕ → ℕ → Type 0
HasClass l k c = (p : Used) × ((p.pool ≡ k) × HasPool l c p)

-- one more block of the class's first pool, which joins the full ones with its last block
abbrev pub place_used : Layout → ℕ → Used → List Used → Layout
place_used l c p ps =
    if p.live + 1 == capacity c
    then record l { used = set l.used c ps; full = set l.full p.pool (Some (record { class = c; arena = p.arena })) }
    else record l { used = set l.used c (record p { live = p.live + 1 } ∷ ps) }

-- the usable arenas after the first of them gave a pool
abbrev pub after_taking : Usable → List Usable → List Usable
after_taking u us = if u.free == 1 then us else (record u { free = u.free - 1 } ∷ us)

-- the arenas without a free pool after that
abbrev pub dry_after_taking : Usable → List (Option ℕ) → List (Option ℕ)
dry_after_taking u ds = if u.free == 1 then set ds u.arena (Some u.total) else ds

-- one block of a new pool of the first usable arena
abbrev pub place_new : Layout → ℕ → Usable → List Usable → Layout
place_new l c u us = record l {
  usable = after_taking u us;
  dry = dry_after_taking u l.dry;
  used = set l.used c (record { pool = length l.full; arena = u.arena; live = 1 } ∷ []);
  full = l.full ++ None ∷ [];
}

-- an arena as it is granted
abbrev pub new_arena : Layout → ℕ → Usable
new_arena l total = record { arena = l.given + 1; total = total; free = total }

-- the layout with a new arena, which is the one usable arena
abbrev pub granted : Layout → ℕ → Layout
granted l total = record l {
  usable = new_arena l total ∷ [];
  dry = l.dry ++ None ∷ [];
  given = l.given + 1;
  most = max l.most (l.given + 1 - l.back);
}

-- by the class's pools and the usable arenas
abbrev pub place_by : Layout → ℕ → Grant → List Used → List Usable → Placed
place_by l c g (p ∷ ps) us = record { pool = Some p.pool; layout = place_used l c p ps }
place_by l c g [] (u ∷ us) = record { pool = Some (length l.full); layout = place_new l c u us }
place_by l c (Granted total) [] [] = record { pool = Some (length l.full); layout = place_new (granted l total) c (new_arena l total) [] }
place_by l c Refused [] [] = record { pool = None; layout = l }
place_by l c NotAsked [] [] = record { pool = None; layout = l }

-- a block of class c is taken, where the arena source answers g
abbrev pub place : Layout → ℕ → Grant → Placed
place l c g = place_by l c g (pools_of_class l c) l.usable
