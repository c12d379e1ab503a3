use Rattle.snapshot_model.proofs.Snapping.{snapshot_rises, snapshot_has, snapshot_from, snapshot_one}
use Rattle.snapshot_model.proofs.snapshots_hold_all.Goals as goal

pub returns-clause-all : goal.returns-clause-all
returns-clause-all c = λ t are. (snapshot_rises t are, snapshot_has t, snapshot_from t are)

pub returns-clause-one : goal.returns-clause-one
returns-clause-one c = snapshot_one
