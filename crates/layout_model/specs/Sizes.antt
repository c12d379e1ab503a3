-- The sizes of blocks, by class.
use Rattle.std.specs.Prelude.{◌≡◌, ℕ, ◌+◌, ◌-◌, ◌*◌, ◌/◌, ◌<◌, ◌≤◌, Bool, ◌&&◌, nat_le, [], ◌∷◌, map}
use Rattle.layout_model.specs.declared.measures.TheConstants.{ALIGNMENT, CLASSES, HEADER_BYTES, MAX_SMALL, POOL_BYTES}

-- the bytes that a block of n bytes of data takes with its pads
abbrev pub need : ℕ → ℕ
need n = n + 24

-- a request that a pool's block can serve
abbrev pub is_small : ℕ → Bool
is_small m = nat_le 1 m && nat_le m MAX_SMALL

-- the least class whose blocks hold m bytes
abbrev pub class_of : ℕ → ℕ
class_of m = (m - 1) / ALIGNMENT

-- the size of a class's blocks
abbrev pub size_of_class : ℕ → ℕ
size_of_class c = ALIGNMENT * (c + 1)

-- the blocks that a pool of the class holds
abbrev pub capacity : ℕ → ℕ
capacity c = (POOL_BYTES - HEADER_BYTES) / size_of_class c

-- a small request's class is one of 32, its blocks are large enough, and those of no lesser class are
abbrev pub ClassesAreLeast : Type 0
ClassesAreLeast = (m : ℕ) → 1 ≤ m → m ≤ MAX_SMALL
    → (class_of m < CLASSES) × (m ≤ size_of_class (class_of m)) × ((c : ℕ) → m ≤ size_of_class c → class_of m ≤ c)

-- the blocks per pool, for blocks of nine sizes
abbrev pub PoolsHold : Type 0
PoolsHold = map (λ size. capacity (class_of size)) (16 ∷ 32 ∷ 48 ∷ 64 ∷ 96 ∷ 128 ∷ 224 ∷ 256 ∷ 512 ∷ [])
    ≡ 1021 ∷ 510 ∷ 340 ∷ 255 ∷ 170 ∷ 127 ∷ 72 ∷ 63 ∷ 31 ∷ []
