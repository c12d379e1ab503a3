use Rattle.snap_file.proofs.Growth.{on_ok, stays_there}
use Rattle.snap_file.proofs.progress.Progress.read.Goals as goal

pub returns-clause-same : goal.returns-clause-same
returns-clause-same c =
    on_ok c.read_row.result c.read_row.ensures.grows
    (λ grows. stays_there c.args.self.now _ c.read_row.new.texts c.read_row.new.frames c.requires.known grows)
