use Rattle.layout_model.proofs.Unplace.{unplace_keeps}
use Rattle.layout_model.proofs.unplace_keeps_sound.Goals as goal

pub returns : goal.returns
returns c = unplace_keeps
