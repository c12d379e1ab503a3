use Rattle.block_model.proofs.BodyLemmas.{peeked-poked}
use Rattle.block_model.proofs.peeks_show_pokes.Goals as goal

pub returns : goal.returns
returns c = peeked-poked
