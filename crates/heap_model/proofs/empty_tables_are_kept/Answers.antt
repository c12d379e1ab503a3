use Rattle.heap_model.proofs.Empty.{empty_tables_are_kept}
use Rattle.heap_model.proofs.empty_tables_are_kept.Goals as goal

pub returns-clause-kept : goal.returns-clause-kept
returns-clause-kept c = empty_tables_are_kept
