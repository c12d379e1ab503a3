use Rattle.std.proofs.Common.{◌≡◌, ◌≢◌, ◌&&◌, length, drop, sym, ap, ◌∙◌, arith, ne_eqb}
use Rattle.pattern_model.specs.Patterns.{at_some_end, match_parts}
use Rattle.name_match.specs.Pieces.{parts_held}
use Rattle.name_match.proofs.PieceLemmas.{alone, elsewhere, first_then, rest_of}
use Rattle.name_match.proofs.matching.match_whole.Goals as goal

pub returns-then-run-name : goal.returns-then-run-name
returns-then-run-name c =
    let run = c.cut_at_star.result.0.now in
    let star = c.cut_at_star.result.1.now in
    let name = c.args.name.now in
    let ends : length star ≡ 0 = omega arith in
    let same : length run ≡ length name = omega arith in
    c.fits.ensures.fits
    ∙ sym (alone _ run star c.cut_at_star.ensures name ends same)

pub returns-else-run-name : goal.returns-else-run-name
returns-else-run-name c =
    let run = c.cut_at_star.result.0.now in
    let star = c.cut_at_star.result.1.now in
    let name = c.args.name.now in
    let ends : length star ≡ 0 = omega arith in
    let other : length run ≢ length name = c.if-run-name.false in
    ne_eqb (length run) (length name) other
    ∙ sym (elsewhere _ run star c.cut_at_star.ensures name ends other)

pub returns-then-fits : goal.returns-then-fits
returns-then-fits c =
    let run = c.cut_at_star.result.0.now in
    let star = c.cut_at_star.result.1.now in
    let name = c.args.name.now in
    c.match_some_end.ensures
    ∙ (λ i. at_some_end (match_parts (parts_held (rest_of star 1 i))) (rest_of name (length run) i))
    ∙ ap (λ x. x && at_some_end (match_parts (parts_held (drop 1 star))) (drop (length run) name))
    (sym c.if-fits.true ∙ c.fits-in-len1-up.ensures.fits)
    ∙ sym (first_then _ run star c.cut_at_star.ensures name c.in-len1-up.len_at_least)

pub returns-else-fits : goal.returns-else-fits
returns-else-fits c =
    let run = c.cut_at_star.result.0.now in
    let star = c.cut_at_star.result.1.now in
    let name = c.args.name.now in
    c.if-fits.false
    ∙ ap (λ x. x && at_some_end (match_parts (parts_held (drop 1 star))) (drop (length run) name))
    (sym c.if-fits.false ∙ c.fits-in-len1-up.ensures.fits)
    ∙ sym (first_then _ run star c.cut_at_star.ensures name c.in-len1-up.len_at_least)
