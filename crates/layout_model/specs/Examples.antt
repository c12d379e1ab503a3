-- Three heaps, worked out.
use Rattle.std.specs.Prelude.{◌≡◌, ℕ, zero, suc, List, [], ◌∷◌, ◌++◌, replicate, get_or, set, if◌then◌else◌, Option, Some, None}
use Rattle.mem_base.specs.declared.history.Grant.TheVariants.{NotAsked, Granted}
use Rattle.layout_model.specs.Layout.{Layout, Usable, Used, Full}
use Rattle.layout_model.specs.Place.{place}
use Rattle.layout_model.specs.Unplace.{unplace}
use Rattle.layout_model.specs.Asks.{class_asks}

-- n blocks of class c, with an arena of 64 pools wherever one is asked for
abbrev pub place_many : ℕ → ℕ → Layout → Layout
place_many zero c l = l
place_many (suc n) c l = place_many n c (place l c (if class_asks l c then Granted 64 else NotAsked)).layout

-- n blocks of pool k are freed
abbrev pub unplace_many : ℕ → ℕ → Layout → Layout
unplace_many zero k l = l
unplace_many (suc n) k l = unplace_many n k (unplace l k)

-- a list for each class, all empty but one
abbrev pub only_class : ℕ → List Used → List (List Used)
only_class c ps = set (replicate 32 []) c ps

abbrev pub arena : ℕ → ℕ → Usable
arena number free = record { arena = number; total = 64; free = free }

-- n full pools of an arena, with blocks of 512 bytes
abbrev pub full_pools : ℕ → ℕ → List (Option Full)
full_pools n a = replicate n (Some (record { class = 31; arena = a }))

-- one arena with one free pool: 62 pools are full, and one has room for one more block
abbrev pub almost_full : Layout
almost_full = record {
  usable = arena 1 1 ∷ [];
  dry = None ∷ None ∷ [];
  used = only_class 31 (record { pool = 62; arena = 1; live = 30 } ∷ []);
  full = full_pools 62 1 ++ None ∷ [];
  given = 1;
  back = 0;
  most = 1;
}

-- the pool that fills up first, then the last free pool, then a second arena
abbrev pub ArenasAreUsedUp : Type 0
ArenasAreUsedUp =
    ((place_many 1 31 almost_full).full ≡ full_pools 63 1)
    × ((place_many 2 31 almost_full).dry ≡ None ∷ Some 64 ∷ [])
    × ((place_many 32 31 almost_full).full ≡ full_pools 64 1)
    × ((place_many 33 31 almost_full).usable ≡ arena 2 63 ∷ [])
    × (get_or (place_many 33 31 almost_full).used 31 [] ≡ record { pool = 64; arena = 2; live = 1 } ∷ [])

-- 3,969 blocks of 512 bytes: the arenas 1 and 2 are full, and the arena 3 has one block
abbrev pub two_full_arenas : Layout
two_full_arenas = record {
  usable = arena 3 63 ∷ [];
  dry = None ∷ Some 64 ∷ Some 64 ∷ None ∷ [];
  used = only_class 31 (record { pool = 128; arena = 3; live = 1 } ∷ []);
  full = full_pools 64 1 ++ full_pools 64 2 ++ None ∷ [];
  given = 3;
  back = 0;
  most = 3;
}

-- the first pool of arena 1 and the first two pools of arena 2 are freed
abbrev pub three_pools_back : Layout
three_pools_back = unplace_many 31 65 (unplace_many 31 64 (unplace_many 31 0 two_full_arenas))

-- arena 2, with two free pools, stands behind arena 1, with one; a block of another class has arena 1's pool
abbrev pub ArenasRiseInFreePools : Type 0
ArenasRiseInFreePools =
    (three_pools_back.usable ≡ arena 1 1 ∷ arena 2 2 ∷ arena 3 63 ∷ [])
    × (get_or three_pools_back.used 31 [] ≡ record { pool = 128; arena = 3; live = 1 } ∷ [])
    × ((place three_pools_back 1 NotAsked).layout.usable ≡ arena 2 2 ∷ arena 3 63 ∷ [])

-- arena 1 has one block in each of two pools, and arena 2 has one block
abbrev pub three_blocks : Layout
three_blocks = record {
  usable = arena 1 62 ∷ arena 2 63 ∷ [];
  dry = None ∷ None ∷ None ∷ [];
  used = only_class 31 (record { pool = 64; arena = 2; live = 1 } ∷ record { pool = 1; arena = 1; live = 1 } ∷ record { pool = 0; arena = 1; live = 1 } ∷ []);
  full = replicate 65 None;
  given = 2;
  back = 0;
  most = 2;
}

-- arena 1 stays before an arena with as many free pools, and goes back once all its pools are free
abbrev pub arena_1_gone : Layout
arena_1_gone = unplace (unplace three_blocks 0) 1

-- an arena with all its pools free goes back, but for the last one
abbrev pub TheLastArenaStays : Type 0
TheLastArenaStays =
    ((unplace three_blocks 0).usable ≡ arena 1 63 ∷ arena 2 63 ∷ [])
    × (arena_1_gone.usable ≡ arena 2 63 ∷ [])
    × (arena_1_gone.back ≡ 1)
    × ((unplace arena_1_gone 64).usable ≡ arena 2 64 ∷ [])
    × ((unplace arena_1_gone 64).back ≡ 1)
