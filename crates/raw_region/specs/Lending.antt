-- What memory ends as, once a `&mut` into it has ended.
use Rattle.std.specs.Prelude.{ℕ, List, map, Some}
use Rattle.std.specs.Borrow.{Fml, MutBor, Array, Lends, u8}
use Rattle.std.specs.List.{refill}
use Rattle.raw_region.specs.Cells.{bytes_of, with_run}
use Rattle.raw_region.specs.declared.memory.Cells.{Cells}
use Rattle.raw_region.specs.contracts.memory.Cells.{the_row}

-- c, with bytes in place of the len of them from off on
abbrev pub rewritten : Cells → ℕ → ℕ → List ℕ → Cells
rewritten c off len bytes = record {
  at = c.at;
  cells = with_run c.cells off len (map Some (refill len (bytes_of c.cells off len) bytes));
}

abbrev pub LendsRun : MutBor Cells → ℕ → ℕ → MutBor (List ℕ) → Fml
LendsRun c off len r = Lends the_row (Array u8 0) c r (rewritten c.now off len)
