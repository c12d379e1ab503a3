use Rattle.std.proofs.Common.{◌≡◌, ◌++◌, map, length}
use Rattle.name_match.specs.Pieces.{stretch_of}
use Rattle.pattern_model.specs.Patterns.{stretches}
use Rattle.name_match.proofs.sets.ranges.Given as goal

abbrev pub invariant-loop-rest : goal.invariant-loop-rest
invariant-loop-rest l = map stretch_of l.found.items ++ stretches l.rest ≡ stretches l.members

abbrev pub decreases-loop-rest : goal.decreases-loop-rest
decreases-loop-rest l = length l.rest
