-- The layout that tables stand for.
use Rattle.std.specs.Prelude.{ℕ, ◌==◌, Bool, if◌then◌else◌, List, [], ◌∷◌, map, Option, Some, None}
use Rattle.std.specs.List.{range_with_len}
use Rattle.layout_model.specs.Sizes.{capacity}
use Rattle.layout_model.specs.Layout.{Layout, Used, Full}
use Rattle.layout_model.specs.Geometry.{PoolLine}
use Rattle.heap_model.specs.Tables.{Spot, Tables, spot_of, same_spot}

-- what f makes of the first element that passes the test, or d where none does
abbrev pub pick : {X Y : Type 0} → (X → Bool) → (X → Y) → Y → List X → Y
pick test f d [] = d
pick test f d (x ∷ xs) = if test x then f x else pick test f d xs

-- the pool in the list of its class
abbrev pub used_pool : PoolLine → Used
used_pool x = record { pool = x.number; arena = x.arena; live = x.live }

-- no pool
abbrev pub no_pool : Used
no_pool = record { pool = 0; arena = 0; live = 0 }

-- the pool at the spot
abbrev pub used_at : List PoolLine → Spot → Used
used_at xs s = pick (λ x. same_spot (spot_of x) s) used_pool no_pool xs

-- what the pool is, if it is full
abbrev pub full_pool : PoolLine → Option Full
full_pool x = if x.live == capacity x.class then Some (record { class = x.class; arena = x.arena }) else None

-- what the pool numbered k is, if it is full
abbrev pub full_in : List PoolLine → ℕ → Option Full
full_in xs k = pick (λ x. x.number == k) full_pool None xs

-- where the pool numbered k begins, if it has blocks in use
abbrev pub place_in : List PoolLine → ℕ → Option ℕ
place_in xs k = pick (λ x. x.number == k) (λ x. Some x.place) None xs

-- the pools in the lists of the classes
abbrev pub used_of : List PoolLine → List (List Spot) → List (List Used)
used_of xs lists = map (map (used_at xs)) lists

-- the full pools, by number
abbrev pub full_of : ℕ → List PoolLine → List (Option Full)
full_of taken xs = map (full_in xs) (range_with_len 0 taken)

-- the layout
abbrev pub layout_of : Tables → Layout
layout_of t = record {
  usable = t.usable;
  dry = t.dry;
  used = used_of t.started t.lists;
  full = full_of t.taken t.started;
  given = t.given;
  back = t.back;
  most = t.most;
}

-- where each pool begins, by number: `None` at the number of a pool without blocks in use
abbrev pub places_of : Tables → List (Option ℕ)
places_of t = map (place_in t.started) (range_with_len 0 t.taken)
