use Rattle.std.proofs.Common.{◌≡◌, ◌-◌, ◌<◌, ◌≤◌, length, sym, ap, ◌∙◌, arith}
use Rattle.std.proofs.lemmas.Bool.{lt-leb}
use Rattle.pattern_model.specs.Patterns.{at_some_end, match_parts}
use Rattle.name_match.specs.Pieces.{parts_held}
use Rattle.name_match.specs.Runs.{fits}
use Rattle.name_match.proofs.PieceLemmas.{found, last, last_none, missing, rest_behind, rest_of}
use Rattle.name_match.proofs.matching.match_some_end.Goals as goal

pub returns-then-run-name : goal.returns-then-run-name
returns-then-run-name c =
    let run = c.cut_at_star.result.0.now in
    let star = c.cut_at_star.result.1.now in
    let name = c.loop-from_star.name.now in
    let ends : length star ≡ 0 = omega arith in
    let few : length run ≤ length name = omega arith in
    c.fits.ensures.fits
    ∙ ap (fits (parts_held run)) (rest_of name (length name - length run))
    ∙ sym (last _ run star c.cut_at_star.ensures name ends few)
    ∙ sym c.loop-from_star.invariant

pub returns-else-run-name : goal.returns-else-run-name
returns-else-run-name c =
    let run = c.cut_at_star.result.0.now in
    let star = c.cut_at_star.result.1.now in
    let name = c.loop-from_star.name.now in
    let ends : length star ≡ 0 = omega arith in
    let many : length name < length run = omega arith in
    lt-leb (length run) (length name) many
    ∙ sym (last_none _ run star c.cut_at_star.ensures name ends many)
    ∙ sym c.loop-from_star.invariant

pub returns-in-None : goal.returns-in-None
returns-in-None c =
    let run = c.cut_at_star.result.0.now in
    let star = c.cut_at_star.result.1.now in
    let name = c.loop-from_star.name.now in
    sym (missing _ run star c.cut_at_star.ensures name c.in-len1-up.len_at_least c.in-None.ensures.none)
    ∙ sym c.loop-from_star.invariant

pub loop-from_star-preserved : goal.loop-from_star-preserved
loop-from_star-preserved c =
    let run = c.cut_at_star.result.0.now in
    let star = c.cut_at_star.result.1.now in
    let name = c.loop-from_star.name.now in
    c.loop-from_star.invariant
    ∙ found _ run star c.cut_at_star.ensures name c.in-Some.at c.in-len1-up.len_at_least
    c.in-Some.ensures.first c.in-Some.ensures.here
    ∙ (λ i. at_some_end (match_parts (parts_held (sym (rest_of star 1) i)))
    (sym (rest_behind name c.in-Some.at (length run)) i))
