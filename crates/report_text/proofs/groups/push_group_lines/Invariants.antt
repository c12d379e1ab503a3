use Rattle.std.proofs.Common.{◌≡◌, ◌++◌, take}
use Rattle.std.specs.List.{flat_map}
use Rattle.snapshot_model.specs.Stats.{plain_group}
use Rattle.report_model.specs.Report.{group_line}
use Rattle.report_text.proofs.groups.push_group_lines.Given as goal

-- the lines so far
abbrev pub invariant-loop-group : goal.invariant-loop-group
invariant-loop-group l =
    l.text.items ≡ l.fn.text.items ++ flat_map (λ g. group_line (plain_group l.texts g)) (take l.group-index l.groups)
