use Rattle.std.proofs.Common.{List, ℕ, ◌++◌, ap, sym, ◌∙◌}
use Rattle.std.specs.List.{flat_map}
use Rattle.std.proofs.lemmas.List.{take_all}
use Rattle.std.proofs.lemmas.List.Folds.{flat_map-map}
use Rattle.mem_base.specs.declared.reply.Group.{Group}
use Rattle.snapshot_model.specs.Stats.{plain_group}
use Rattle.report_model.specs.Report.{group_line}
use Rattle.report_text.proofs.groups.push_group_lines.Goals as goal

pub returns-clause-ok : goal.returns-clause-ok
returns-clause-ok c =
    let old = c.args.text.now.items in
    let line : Group → List ℕ = λ g. group_line (plain_group c.args.texts.now g) in
    let groups = c.args.groups.now in
    c.loop-group.invariant
    ∙ ap (λ (gs : List Group). old ++ flat_map line gs) (take_all c.loop-group.group-index groups c.loop-group-test.false)
    ∙ ap (λ (l : List ℕ). old ++ l) (sym (flat_map-map group_line (plain_group c.args.texts.now) groups))
