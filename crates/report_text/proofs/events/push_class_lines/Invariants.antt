use Rattle.std.proofs.Common.{◌≡◌, ◌++◌, take}
use Rattle.std.specs.List.{flat_map}
use Rattle.report_model.specs.Report.{class_line}
use Rattle.report_text.proofs.events.push_class_lines.Given as goal

-- the lines so far
abbrev pub invariant-loop-class : goal.invariant-loop-class
invariant-loop-class l = l.text.items ≡ l.fn.text.items ++ flat_map class_line (take l.class-index l.classes)
