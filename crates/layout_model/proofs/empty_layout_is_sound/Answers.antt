use Rattle.layout_model.proofs.Empty.{empty_layout_is_sound}
use Rattle.layout_model.proofs.empty_layout_is_sound.Goals as goal

pub returns : goal.returns
returns c = empty_layout_is_sound
