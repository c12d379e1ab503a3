use Rattle.heap_model.proofs.Ground.{places_differ}
use Rattle.heap_model.proofs.places_differ.Goals as goal

pub returns : goal.returns
returns c = places_differ
