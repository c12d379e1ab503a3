use Rattle.block_model.proofs.BodyLemmas.{finding_in-body_of}
use Rattle.block_model.proofs.whole_blocks_pass.Goals as goal

pub returns : goal.returns
returns c = finding_in-body_of
