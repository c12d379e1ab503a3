use Rattle.std.proofs.Common.{◌≡◌, ◌++◌, length}
use Rattle.name_match.specs.Pieces.{parts_held}
use Rattle.pattern_model.specs.Patterns.{as_source, parts_of}
use Rattle.name_match.proofs.pattern.Pattern.read.Given as goal

abbrev pub invariant-loop-rest : goal.invariant-loop-rest
invariant-loop-rest l = parts_held l.pieces.items ++ parts_of l.rest ≡ parts_of (as_source l.text)

abbrev pub decreases-loop-rest : goal.decreases-loop-rest
decreases-loop-rest l = length l.rest
