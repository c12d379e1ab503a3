use Rattle.frame_model.proofs.CallerLemmas.{below_with, on_with}
use Rattle.frame_model.proofs.calls_come_and_go.Goals as goal

pub returns : goal.returns
returns g c = λ frames f on. (below_with frames f, on_with frames f on)
