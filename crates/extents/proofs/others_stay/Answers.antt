use Rattle.extents.proofs.Lists.{has_kept, has_more}
use Rattle.extents.proofs.others_stay.Goals as goal

pub returns-clause-kept : goal.returns-clause-kept
returns-clause-kept c = has_kept

pub returns-clause-none : goal.returns-clause-none
returns-clause-none c = has_more
