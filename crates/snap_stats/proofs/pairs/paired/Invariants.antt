use Rattle.std.proofs.Common.{◌≡◌, ◌++◌, map}
use Rattle.snap_stats.specs.Pairs.{pair_at}
use Rattle.snap_stats.proofs.pairs.paired.Given as goal

abbrev pub invariant-loop-key : goal.invariant-loop-key
invariant-loop-key g l =
    let pair = pair_at g.K.PartialEq.eq l.old.entries in
    l.pairs.items ++ map pair l.key-iterator ≡ map pair l.new.entries
