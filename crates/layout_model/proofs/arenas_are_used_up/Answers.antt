use Rattle.layout_model.proofs.Examples.{arenas_are_used_up}
use Rattle.layout_model.proofs.arenas_are_used_up.Goals as goal

pub returns : goal.returns
returns c = arenas_are_used_up
