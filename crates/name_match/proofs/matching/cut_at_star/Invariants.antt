use Rattle.std.proofs.Common.{◌≡◌, ◌+◌, drop}
use Rattle.name_match.specs.Pieces.{parts_held}
use Rattle.name_match.proofs.RunLemmas.{run_length}
use Rattle.name_match.proofs.matching.cut_at_star.Given as goal

abbrev pub invariant-loop-i : goal.invariant-loop-i
invariant-loop-i l = run_length (parts_held l.pieces) ≡ l.i + run_length (parts_held (drop l.i l.pieces))
