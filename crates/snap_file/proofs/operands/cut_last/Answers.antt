use Rattle.std.proofs.Common.{ℕ, ◌+◌, ◌-◌, List, length, Option, Some, sym, ap, ◌∙◌, arith, add-one, drop, take, length-drop}
use Rattle.std.proofs.lemmas.List.{take_all}
use Rattle.trace_model.specs.Rules.{Cut}
use Rattle.snap_file.proofs.Cuts.{cut_found, not_cut}
use Rattle.snap_file.proofs.operands.cut_last.Goals as goal

-- what was cut at a place, with what stands behind it
abbrev parts : List ℕ → ℕ → List ℕ → Option Cut
parts word at behind = Some (record { front = take at word; behind = behind })

pub returns-in-Some : goal.returns-in-Some
returns-in-Some c =
    let h = c.in-Some.ensures in
    let word = c.args.word.now in
    let at = c.in-Some.at in
    let tail = take_all (length word - (at + 1)) (drop (at + 1) word) (omega (arith, length-drop (at + 1) word)) in
    sym (cut_found word at h.0.high (λ j above lt. h.0.after j (omega (arith, above)) lt) h.1
    ∙ ap (parts word at) (ap (λ (n : ℕ). drop n word) (sym (add-one at)) ∙ sym tail))

pub returns-in-None : goal.returns-in-None
returns-in-None c = sym (not_cut c.args.word.now (λ j lt. c.in-None.ensures j (omega arith) lt))
