use Rattle.event_model.proofs.SnapshotLaws.{snapshots_sound}
use Rattle.event_model.proofs.snapshots_are_sound.Goals as goal

pub returns : goal.returns
returns c = snapshots_sound
