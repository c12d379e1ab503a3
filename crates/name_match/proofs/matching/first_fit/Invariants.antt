use Rattle.name_match.specs.Pieces.{parts_held}
use Rattle.name_match.specs.Runs.{FitsNowhereBelow}
use Rattle.name_match.proofs.matching.first_fit.Given as goal

abbrev pub invariant-loop-at : goal.invariant-loop-at
invariant-loop-at l = FitsNowhereBelow (parts_held l.run) l.name l.at
