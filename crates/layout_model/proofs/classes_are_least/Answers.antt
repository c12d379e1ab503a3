use Rattle.layout_model.proofs.Classes.{classes_are_least}
use Rattle.layout_model.proofs.classes_are_least.Goals as goal

pub returns : goal.returns
returns c = classes_are_least
