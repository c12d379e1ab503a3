use Rattle.snapshot_model.proofs.Keeping.{keeps_snapshot, no_rules}
use Rattle.snapshot_model.proofs.rules_keep_snapshots.Goals as goal

pub returns-clause-snapshot : goal.returns-clause-snapshot
returns-clause-snapshot c = keeps_snapshot

pub returns-clause-all : goal.returns-clause-all
returns-clause-all c = no_rules
