use Rattle.std.proofs.Common.{sym, ◌<◌, length, arith}
use Rattle.std.proofs.lemmas.List.{length-map}
use Rattle.name_match.specs.Pieces.{part_of, parts_held}
use Rattle.name_match.proofs.RunLemmas.{too_long}
use Rattle.name_match.proofs.matching.fits.Goals as goal

pub returns-then-run-name-clause-fits : goal.returns-then-run-name-clause-fits
returns-then-run-name-clause-fits c =
    let many : length c.args.name.now < length (parts_held c.args.run.now) =
    omega (arith, length-map c.args.run.now part_of) in
    sym (too_long (parts_held c.args.run.now) c.args.name.now many)
