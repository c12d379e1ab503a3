use Rattle.extents.proofs.Lists.{tally_inserted}
use Rattle.extents.proofs.sums_grow_by_what_comes.Goals as goal

pub returns : goal.returns
returns c = tally_inserted
