use denote.Param.Send.{IsSync, struct_sync}
use denote.Struct.Owning.{shape}
use Rattle.raw_region.specs.contracts.memory.Cells as Cells
use Rattle.raw_region.proofs.Crossing.{cells_common}

pub sync : IsSync Cells.the_row
sync = record { shared = λ c b o κ. ((struct_sync (shape Cells.the_type) tt).shared tt b o κ, cells_common c.at c.cells κ) }
