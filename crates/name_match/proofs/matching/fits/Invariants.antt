use Rattle.std.proofs.Common.{◌≡◌, drop}
use Rattle.name_match.specs.Pieces.{parts_held}
use Rattle.name_match.specs.Runs.{fits}
use Rattle.name_match.proofs.matching.fits.Given as goal

abbrev pub invariant-loop-i : goal.invariant-loop-i
invariant-loop-i l = fits (parts_held l.run) l.name ≡ fits (parts_held (drop l.i l.run)) (drop l.i l.name)
