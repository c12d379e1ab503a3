use Rattle.event_model.proofs.SoundLaws.{traces_of_blocks}
use Rattle.event_model.proofs.traces_belong_to_blocks.Goals as goal

pub returns : goal.returns
returns c = traces_of_blocks
