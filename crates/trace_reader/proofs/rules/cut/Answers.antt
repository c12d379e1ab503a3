use Rattle.std.proofs.Common.{ℕ, ◌+◌, List, Option, Some, sym, ap, ◌∙◌, arith, add-one, drop, take}
use Rattle.trace_model.specs.Rules.{Cut}
use Rattle.trace_reader.proofs.Parts.{tail_is}
use Rattle.trace_reader.proofs.RuleSteps.{cut_found, not_cut}
use Rattle.trace_reader.proofs.rules.cut.Goals as goal

-- what was cut at a place, with what stands behind it
abbrev parts : List ℕ → ℕ → List ℕ → Option Cut
parts word at behind = Some (record { front = take at word; behind = behind })

pub returns-in-Some : goal.returns-in-Some
returns-in-Some c =
    let h = c.in-Some.ensures in
    let word = c.args.word.now in
    let at = c.in-Some.at in
    sym (cut_found word at h.0.high (λ j lt. h.0.before j (omega arith) lt) h.1
    ∙ ap (parts word at) (ap (λ (n : ℕ). drop n word) (sym (add-one at)) ∙ sym (tail_is word (at + 1))))

pub returns-in-None : goal.returns-in-None
returns-in-None c = sym (not_cut c.args.word.now (λ j lt. c.in-None.ensures j (omega arith) lt))
