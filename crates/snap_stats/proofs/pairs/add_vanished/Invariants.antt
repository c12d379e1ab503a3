use Rattle.std.proofs.Common.{◌≡◌, ◌++◌}
use Rattle.snap_stats.specs.Pairs.{vanished}
use Rattle.snap_stats.proofs.pairs.add_vanished.Given as goal

abbrev pub invariant-loop-key : goal.invariant-loop-key
invariant-loop-key g l =
    let gone = vanished g.K.PartialEq.eq l.new.entries in
    l.pairs.items ++ gone l.key-iterator ≡ l.initial.pairs.items ++ gone l.old.entries
