use Rattle.std.proofs.Common.{List, ℕ, ◌++◌, ap, sym, ◌∙◌}
use Rattle.std.specs.List.{flat_map}
use Rattle.std.proofs.lemmas.List.{take_all}
use Rattle.std.proofs.lemmas.List.Folds.{flat_map-map}
use Rattle.mem_base.specs.declared.reply.Diff.{Diff}
use Rattle.snapshot_model.specs.Compared.{plain_change}
use Rattle.report_model.specs.Report.{change_line}
use Rattle.report_text.proofs.changes.push_change_lines.Goals as goal

pub returns-clause-ok : goal.returns-clause-ok
returns-clause-ok c =
    let old = c.args.text.now.items in
    let line : Diff → List ℕ = λ d. change_line (plain_change c.args.texts.now d) in
    let diffs = c.args.diffs.now in
    c.loop-diff.invariant
    ∙ ap (λ (ds : List Diff). old ++ flat_map line ds) (take_all c.loop-diff.diff-index diffs c.loop-diff-test.false)
    ∙ ap (λ (l : List ℕ). old ++ l) (sym (flat_map-map change_line (plain_change c.args.texts.now) diffs))
