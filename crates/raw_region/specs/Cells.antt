-- Cells of memory. A cell is `Some b` where the byte b is at home, and `None` where it is lent.
use Rattle.std.specs.Prelude.{◌≡◌, ℕ, ◌+◌, ◌<◌, ◌≤◌, List, [], ◌∷◌, ◌++◌, length, map, take, drop, replicate}
use Rattle.std.specs.Prelude.{get_or, Option, Some, None}
use Rattle.std.specs.Int.{from_le_bytes, w64}

module _ {X : Type 0} where
  -- what is at home, in order
  abbrev pub at_home : List (Option X) → List X
  at_home [] = []
  at_home (None ∷ cells) = at_home cells
  at_home (Some x ∷ cells) = x ∷ at_home cells

  -- the cell at i is at home
  abbrev pub IsHome : List (Option X) → ℕ → Type 0
  IsHome cells i = (x : X) × (get_or cells i None ≡ Some x)

  -- the len cells from off on are at home, and hold some list
  abbrev pub IsHomeRun : List (Option X) → ℕ → ℕ → Type 0
  IsHomeRun cells off len = (off + len ≤ length cells) × ((xs : List X) × (take len (drop off cells) ≡ map Some xs))

  -- cells, with a run in place of the len of them from off on
  abbrev pub with_run : List (Option X) → ℕ → ℕ → List (Option X) → List (Option X)
  with_run cells off len run = take off cells ++ (run ++ drop (off + len) cells)

  -- cells, without the len of them from off on
  abbrev pub away : List (Option X) → ℕ → ℕ → List (Option X)
  away cells off len = with_run cells off len (replicate len None)

  -- those len cells, without any other
  abbrev pub only : List (Option X) → ℕ → ℕ → List (Option X)
  only cells off len = replicate off None ++ take len (drop off cells)

-- the len cells from off on are at home
abbrev pub AtHome : List (Option ℕ) → ℕ → ℕ → Type 0
AtHome cells off len = (i : ℕ) → i < len → IsHome cells (off + i)

-- they are all lent
pub record AreLent (cells : List (Option ℕ)) (off len : ℕ) : Type 0 where
  pub inside : off + len ≤ length cells
  pub away : (i : ℕ) → i < len → get_or cells (off + i) None ≡ None

-- every cell is at home
abbrev pub AllHome : List (Option ℕ) → Type 0
AllHome cells = cells ≡ map Some (at_home cells)

-- the bytes of the len cells from off on, which are at home
abbrev pub bytes_of : List (Option ℕ) → ℕ → ℕ → List ℕ
bytes_of cells off len = at_home (take len (drop off cells))

-- the number in the eight bytes from off on, the least byte first
abbrev pub word_at : List (Option ℕ) → ℕ → ℕ
word_at cells off = from_le_bytes w64 (bytes_of cells off 8)

-- n cells at home that hold 0. This does not unfold by itself, since a region may be large
unfoldable pub zeroed : ℕ → List (Option ℕ)
zeroed n = replicate n (Some 0)
