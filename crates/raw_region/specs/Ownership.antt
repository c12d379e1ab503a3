-- What the parts of a region own. A byte at home is owned, and of one that is lent nothing is.
use Rattle.std.specs.Prelude.{ℕ, ◌+◌, List, [], ◌∷◌, Option, Some, None}
use base.Fraction.{full_share}
use base.Fml.{Lft, Fml, ftrue, ffalse, fsep}
use denote.Builtin.{u8}
use denote.Memory.{part_at, shared_of}
use denote.Sharing.{nothing, said, beside}
use denote.RawPtr.{Ptr, block_ptr, null_ptr}

-- the byte at o in the block b
abbrev pub cell_owns : ℕ → ℕ → Option ℕ → Fml
cell_owns b o (Some x) = part_at u8 full_share x b o
cell_owns b o None = ftrue

-- the cells from there on, side by side
abbrev pub row_owns : ℕ → ℕ → List (Option ℕ) → Fml
row_owns b o [] = ftrue
row_owns b o (cell ∷ cells) = fsep (cell_owns b o cell) (row_owns b (o + 1) cells)

-- the cells of memory that begins at p
abbrev pub cells_own : Ptr → List (Option ℕ) → Fml
cells_own (block_ptr b o) cells = row_owns b o cells
cells_own null_ptr cells = ffalse

-- what a `&` to a cell has
abbrev pub cell_lends : ℕ → ℕ → Option ℕ → Lft → Fml
cell_lends b o (Some x) = shared_of u8 x b o
cell_lends b o None = nothing

abbrev pub row_lends : ℕ → ℕ → List (Option ℕ) → Lft → Fml
row_lends b o [] = nothing
row_lends b o (cell ∷ cells) = beside (cell_lends b o cell) (row_lends b (o + 1) cells)

abbrev pub cells_lend : Ptr → List (Option ℕ) → Lft → Fml
cells_lend (block_ptr b o) cells = row_lends b o cells
cells_lend null_ptr cells = said ffalse

-- what a shell waits for: so many bytes, the first of them there
pub record Awaited : Type 0 where
  pub first : Ptr
  pub len : ℕ
