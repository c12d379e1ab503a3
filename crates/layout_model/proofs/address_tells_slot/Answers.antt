use Rattle.layout_model.proofs.Geometry.{address_tells_slot}
use Rattle.layout_model.proofs.address_tells_slot.Goals as goal

pub returns : goal.returns
returns c = address_tells_slot
