use Rattle.std.proofs.Common.{◌≡◌, length}
use Rattle.name_match.specs.Pieces.{parts_held}
use Rattle.pattern_model.specs.Patterns.{at_some_end, match_parts}
use Rattle.name_match.proofs.matching.match_some_end.Given as goal

abbrev pub invariant-loop-from_star : goal.invariant-loop-from_star
invariant-loop-from_star l =
    at_some_end (match_parts (parts_held l.fn.pieces)) l.fn.name
    ≡ at_some_end (match_parts (parts_held l.pieces)) l.name

abbrev pub decreases-loop-from_star : goal.decreases-loop-from_star
decreases-loop-from_star l = length l.pieces
