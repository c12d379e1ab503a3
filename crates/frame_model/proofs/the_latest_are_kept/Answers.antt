use Rattle.frame_model.proofs.CallerLemmas.{keeps_latest, keeps_many}
use Rattle.frame_model.proofs.the_latest_are_kept.Goals as goal

pub returns-clause-latest : goal.returns-clause-latest
returns-clause-latest g c = λ unknown n frames some. keeps_latest unknown n frames some

pub returns-clause-count : goal.returns-clause-count
returns-clause-count g c = λ unknown n frames some. keeps_many unknown n frames some
