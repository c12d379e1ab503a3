-- A `&` to the cells reads the bytes at home. Assumes `Logic`.
use mathlib.Core.List.{[]}
use base.Fml.{Incl-refl}
use denote.Struct.Lending.{of_Lends}
use Rattle.raw_region.specs.contracts.memory.Cells as Cells
use Rattle.raw_region.proofs.Sharing.{cells_laws, cells_lent}
use Rattle.raw_region.proofs.memory.Cells.TheLaw.Statement.{statement}

pub shares : statement
shares = of_Lends Cells.struct Cells.the_codes Cells.the_heap Cells.the_lent (λ c p. cells_laws c.at c.cells) tt (λ M 𝓤 𝓛 c p. cells_lent 𝓛 Cells.the_row.lives (Incl-refl []) c.at c.cells)
