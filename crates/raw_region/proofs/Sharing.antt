-- A `&` to the cells is made of one to each byte at home. Assumes `Logic`.
use Rattle.std.specs.Prelude.{ℕ, ◌+◌, List, [], ◌∷◌, Option, Some, None}
use seplogic.Ra.Ura.{Ura}
use mir.Syntax.{w8}
use base.Fml.{Lft, Incl, ftrue, ffalse}
use types.Logic.{Logic}
use denote.Builtin.{u8}
use denote.Plain.{uint_row_laws}
use denote.RawPtr.{Ptr, block_ptr, null_ptr}
use denote.Sharing.{ShrLaws, said}
use denote.SharingLaws.{beside_shr_laws, nothing_shr_laws, said_shr_laws}
use denote.Shares.{Shares-less}
use denote.Struct.Laws.{u8-laws, u8-copy}
use denote.Struct.Field.{u8-field}
use denote.Param.Laws.{Laws, of_field}
use denote.Param.Shared.{copy_shared}
use mathlib.Core.Path.{refl}
use denote.Struct.Lending.{Lends, Lends-both, Lends-nothing, Lends-false}
use Rattle.raw_region.specs.Ownership.{cell_owns, row_owns, cells_own, cell_lends, row_lends, cells_lend}

pub byte_laws : Laws u8
byte_laws = of_field u8-field u8-laws refl (copy_shared u8-field u8-copy)

row_laws : (b o : ℕ) (cells : List (Option ℕ)) → ShrLaws (row_lends b o cells)
row_laws b o [] = nothing_shr_laws
row_laws b o (Some x ∷ cells) = beside_shr_laws _ _ (uint_row_laws w8 x b o) (row_laws b (o + 1) cells)
row_laws b o (None ∷ cells) = beside_shr_laws _ _ nothing_shr_laws (row_laws b (o + 1) cells)

pub cells_laws : (p : Ptr) (cells : List (Option ℕ)) → ShrLaws (cells_lend p cells)
cells_laws (block_ptr b o) cells = row_laws b o cells
cells_laws null_ptr cells = said_shr_laws ffalse tt

module _ {M : Type 1} {𝓤 : Ura M} (𝓛 : Logic 𝓤) (l : Lft) (inc : Incl l (u8).lives) where
  cell_lent : (b o : ℕ) (cell : Option ℕ) → Lends 𝓛 (cell_owns b o cell) (cell_lends b o cell) l
  cell_lent b o (Some x) = λ κ ts. Shares-less 𝓛 u8 (u8).lives l inc (byte_laws.shares 𝓛) x κ ts b o
  cell_lent b o None = Lends-nothing 𝓛 ftrue l

  row_lent : (b o : ℕ) (cells : List (Option ℕ)) → Lends 𝓛 (row_owns b o cells) (row_lends b o cells) l
  row_lent b o [] = Lends-nothing 𝓛 ftrue l
  row_lent b o (cell ∷ cells) = Lends-both 𝓛 (cell_owns b o cell) (row_owns b (o + 1) cells) (cell_lends b o cell) (row_lends b (o + 1) cells) l (cell_lent b o cell) (row_lent b (o + 1) cells)

  pub cells_lent : (p : Ptr) (cells : List (Option ℕ)) → Lends 𝓛 (cells_own p cells) (cells_lend p cells) l
  cells_lent (block_ptr b o) cells = row_lent b o cells
  cells_lent null_ptr cells = Lends-false 𝓛 (said ffalse) l
