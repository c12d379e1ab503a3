use Rattle.extents.proofs.Addresses.{apart_more, apart_fewer, meets_fewer}
use Rattle.extents.proofs.lists_stay_apart.Goals as goal

pub returns-clause-comes : goal.returns-clause-comes
returns-clause-comes c = apart_more

pub returns-clause-goes : goal.returns-clause-goes
returns-clause-goes c e old new apart i = (apart_fewer e old new apart i, meets_fewer e old new apart i)
