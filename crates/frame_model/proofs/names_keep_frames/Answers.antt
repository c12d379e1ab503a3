use Rattle.frame_model.proofs.CallerLemmas.{recent_names}
use Rattle.frame_model.proofs.names_keep_frames.Goals as goal

pub returns : goal.returns
returns g c = λ name unknown n frames. recent_names name unknown n frames
