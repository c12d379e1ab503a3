use Rattle.dump_model.proofs.DumpLaws.{dumps_take, dumps_read}
use Rattle.dump_model.proofs.laws.read_where_spelt.Goals as goal

pub returns-clause-spelt : goal.returns-clause-spelt
returns-clause-spelt c = dumps_take

pub returns-clause-read : goal.returns-clause-read
returns-clause-read c = dumps_read
