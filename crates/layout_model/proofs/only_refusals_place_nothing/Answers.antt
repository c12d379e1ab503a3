use Rattle.layout_model.proofs.Asks.{only_refusals_place_nothing}
use Rattle.layout_model.proofs.only_refusals_place_nothing.Goals as goal

pub returns : goal.returns
returns c = only_refusals_place_nothing
