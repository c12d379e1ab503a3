use Rattle.snapshot_model.proofs.Order.{first_groups}
use Rattle.snapshot_model.proofs.first_groups_are_first.Goals as goal

pub returns : goal.returns
returns c = first_groups
