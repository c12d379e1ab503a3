use Rattle.std.proofs.Common.{◌≡◌, ◌++◌, take}
use Rattle.std.specs.List.{flat_map}
use Rattle.snapshot_model.specs.Compared.{plain_change}
use Rattle.report_model.specs.Report.{change_line}
use Rattle.report_text.proofs.changes.push_change_lines.Given as goal

-- the lines so far
abbrev pub invariant-loop-diff : goal.invariant-loop-diff
invariant-loop-diff l =
    l.text.items ≡ l.fn.text.items ++ flat_map (λ d. change_line (plain_change l.texts d)) (take l.diff-index l.diffs)
