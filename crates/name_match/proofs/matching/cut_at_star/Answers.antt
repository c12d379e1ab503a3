use Rattle.std.proofs.Common.{◌≡◌, length, arith}
use Rattle.std.proofs.lemmas.Grind.{common_steps}
use Rattle.name_match.specs.Pieces.{parts_held}
use Rattle.name_match.proofs.PieceLemmas.{is_cut}
use Rattle.name_match.proofs.RunLemmas.{run_length}
use Rattle.name_match.proofs.matching.cut_at_star.Goals as goal

pub returns-in-Any : goal.returns-in-Any
returns-in-Any c =
    let is : run_length (parts_held c.args.pieces.now) ≡ c.loop-i.i = grind (arith, common_steps) in
    is_cut _ _ _ c.loop-i.i is c.split_at.ensures.front c.split_at.ensures.back

pub returns : goal.returns
returns c =
    let is : run_length (parts_held c.args.pieces.now) ≡ length c.args.pieces.now =
    grind (arith, common_steps) in
    is_cut _ _ _ (length c.args.pieces.now) is c.split_at-2.ensures.front c.split_at-2.ensures.back
