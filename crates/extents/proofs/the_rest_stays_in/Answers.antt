use Rattle.extents.proofs.Addresses.{all_in_fewer}
use Rattle.extents.proofs.the_rest_stays_in.Goals as goal

pub returns : goal.returns
returns c = all_in_fewer
