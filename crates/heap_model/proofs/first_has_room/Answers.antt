use Rattle.heap_model.proofs.Members.{first_has_room}
use Rattle.heap_model.proofs.first_has_room.Goals as goal

pub returns : goal.returns
returns c = first_has_room
