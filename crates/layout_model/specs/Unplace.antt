-- What freeing a small block leaves.
use Rattle.std.specs.Prelude.{ℕ, ◌+◌, ◌-◌, nat_le, ◌==◌, not, ◌&&◌, Bool, false, if◌then◌else◌, List, [], ◌∷◌, get_or, set, Option, Some, None}
use Rattle.layout_model.specs.Sizes.{capacity}
use Rattle.layout_model.specs.Layout.{Layout, Usable, Used, Full}
use Rattle.layout_model.specs.Place.{pools_of_class}

-- the pools of a class with one block fewer in use in pool k
abbrev pub lowered : ℕ → List Used → List Used
lowered k [] = []
lowered k (p ∷ ps) = if p.pool == k then (record p { live = p.live - 1 } ∷ ps) else (p ∷ lowered k ps)

-- the pools of a class without pool k
abbrev pub without_pool : ℕ → List Used → List Used
without_pool k [] = []
without_pool k (p ∷ ps) = if p.pool == k then ps else (p ∷ without_pool k ps)

-- pool k among the pools of a class
abbrev pub find_pool : ℕ → List Used → Option Used
find_pool k [] = None
find_pool k (p ∷ ps) = if p.pool == k then Some p else find_pool k ps

-- the class that has pool k among its pools
abbrev pub find_class : ℕ → List (List Used) → ℕ
find_class k [] = 0
find_class k (ps ∷ pss) = elim (find_pool k ps) [ Some p ↦ 0 | None ↦ find_class k pss + 1 ]

-- arena a among the usable arenas
abbrev pub find_arena : ℕ → List Usable → Option Usable
find_arena a [] = None
find_arena a (u ∷ us) = if u.arena == a then Some u else find_arena a us

-- the usable arenas without arena a
abbrev pub without_arena : ℕ → List Usable → List Usable
without_arena a [] = []
without_arena a (u ∷ us) = if u.arena == a then us else (u ∷ without_arena a us)

-- arena a is the last of the usable arenas
abbrev pub is_last : ℕ → List Usable → Bool
is_last a [] = false
is_last a (u ∷ []) = u.arena == a
is_last a (u ∷ (v ∷ vs)) = is_last a (v ∷ vs)

-- an arena stands before the first other one with at least as many free pools, or last
abbrev pub put_arena : Usable → List Usable → List Usable
put_arena v [] = v ∷ []
put_arena v (u ∷ us) = if nat_le v.free u.free then (v ∷ (u ∷ us)) else (u ∷ put_arena v us)

-- a pool of a usable arena comes back: an arena with all its pools free goes back to the source, unless it was the last
abbrev pub pool_back : Layout → Usable → Layout
pool_back l u =
    if u.free + 1 == u.total && not (is_last u.arena l.usable)
    then record l { usable = without_arena u.arena l.usable; back = l.back + 1 }
    else record l { usable = put_arena (record u { free = u.free + 1 }) (without_arena u.arena l.usable) }

-- a pool comes back to arena a, which is dry or usable: a dry one goes to the front
abbrev pub arena_back_by : Layout → ℕ → Option ℕ → Option Usable → Layout
arena_back_by l a (Some total) u = record l { usable = record { arena = a; total = total; free = 1 } ∷ l.usable; dry = set l.dry a None }
arena_back_by l a None (Some u) = pool_back l u
arena_back_by l a None None = l

abbrev pub arena_back : Layout → ℕ → Layout
arena_back l a = arena_back_by l a (get_or l.dry a None) (find_arena a l.usable)

-- a block of the full pool k is freed: the pool goes to the front of its class
abbrev pub unplace_full : Layout → ℕ → Full → Layout
unplace_full l k f = record l {
  used = set l.used f.class (record { pool = k; arena = f.arena; live = capacity f.class - 1 } ∷ pools_of_class l f.class);
  full = set l.full k None;
}

-- a block of pool k is freed, which has class c and free blocks: with its last block the pool goes back to its arena
abbrev pub unplace_used : Layout → ℕ → ℕ → Option Used → Layout
unplace_used l k c None = l
unplace_used l k c (Some p) =
    if p.live == 1
    then arena_back (record l { used = set l.used c (without_pool k (pools_of_class l c)) }) p.arena
    else record l { used = set l.used c (lowered k (pools_of_class l c)) }

-- by whether pool k is full
abbrev pub unplace_by : Layout → ℕ → Option Full → Layout
unplace_by l k (Some f) = unplace_full l k f
unplace_by l k None = let c = find_class k l.used in unplace_used l k c (find_pool k (pools_of_class l c))

-- a block of pool k is freed; a number that no pool in use has changes nothing
abbrev pub unplace : Layout → ℕ → Layout
unplace l k = unplace_by l k (get_or l.full k None)
