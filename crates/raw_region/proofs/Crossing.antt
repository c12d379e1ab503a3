-- The bytes of a region may go to another thread, and be read from there.
use Rattle.std.specs.Prelude.{ℕ, ◌+◌, List, [], ◌∷◌, Option, Some, None}
use base.Fraction.{full_share}
use base.Shift.{Keyless}
use denote.Builtin.{u8}
use denote.RawPtr.{Ptr, block_ptr, null_ptr}
use denote.Param.Send.{IsSend, IsSync, Common, part_keyless, sendable}
use Rattle.raw_region.specs.Ownership.{row_owns, row_lends, cells_own, cells_lend}

byte_sends : IsSend u8
byte_sends = search sendable

byte_syncs : IsSync u8
byte_syncs = search sendable

row_keyless : (b o : ℕ) (cells : List (Option ℕ)) → Keyless (row_owns b o cells)
row_keyless b o [] = tt
row_keyless b o (Some x ∷ cells) = (part_keyless u8 byte_sends full_share x b o, row_keyless b (o + 1) cells)
row_keyless b o (None ∷ cells) = (tt, row_keyless b (o + 1) cells)

row_common : (b o : ℕ) (cells : List (Option ℕ)) → Common (row_lends b o cells)
row_common b o [] κ = tt
row_common b o (Some x ∷ cells) κ = (byte_syncs.shared x b o κ, row_common b (o + 1) cells κ)
row_common b o (None ∷ cells) κ = (tt, row_common b (o + 1) cells κ)

pub cells_keyless : (p : Ptr) (cells : List (Option ℕ)) → Keyless (cells_own p cells)
cells_keyless (block_ptr b o) cells = row_keyless b o cells
cells_keyless null_ptr cells = tt

pub cells_common : (p : Ptr) (cells : List (Option ℕ)) → Common (cells_lend p cells)
cells_common (block_ptr b o) cells κ = row_common b o cells κ
cells_common null_ptr cells κ = tt
