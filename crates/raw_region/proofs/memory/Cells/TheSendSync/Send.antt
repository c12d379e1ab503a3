use denote.Param.Send.{IsSend, owning_send}
use Rattle.raw_region.specs.contracts.memory.Cells as Cells
use Rattle.raw_region.proofs.Crossing.{cells_keyless}

pub send : IsSend Cells.the_row
send = owning_send Cells.the_type tt (λ c. cells_keyless c.at c.cells) (λ k x w. tt)
