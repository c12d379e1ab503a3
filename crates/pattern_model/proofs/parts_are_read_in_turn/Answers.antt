use Rattle.pattern_model.proofs.CallerLemmas.{reads_in_turn}
use Rattle.pattern_model.proofs.parts_are_read_in_turn.Goals as goal

pub returns : goal.returns
returns c = reads_in_turn
