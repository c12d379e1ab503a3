use Rattle.layout_model.proofs.Place.{place_keeps}
use Rattle.layout_model.proofs.place_keeps_sound.Goals as goal

pub returns : goal.returns
returns c = place_keeps
