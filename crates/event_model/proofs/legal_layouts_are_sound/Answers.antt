use Rattle.event_model.proofs.SoundLaws.{legal_sound}
use Rattle.event_model.proofs.legal_layouts_are_sound.Goals as goal

pub returns : goal.returns
returns c = legal_sound
