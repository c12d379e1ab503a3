use Rattle.layout_model.proofs.Asks.{requests_fit_their_class}
use Rattle.layout_model.proofs.requests_fit_their_class.Goals as goal

pub returns : goal.returns
returns c = requests_fit_their_class
