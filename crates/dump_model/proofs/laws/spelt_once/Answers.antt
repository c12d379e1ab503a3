use Rattle.dump_model.proofs.DumpLaws.{dump_once}
use Rattle.dump_model.proofs.laws.spelt_once.Goals as goal

pub returns : goal.returns
returns c = dump_once
