use Rattle.std.proofs.Common.{◌≡◌, ◌++◌, take}
use Rattle.std.specs.List.{flat_map}
use Rattle.report_text.proofs.Pieces.{next_frame}
use Rattle.report_text.proofs.groups.push_key.Given as goal

-- what the first frame left, and the frames so far with a blank before each
abbrev pub invariant-loop-frame : goal.invariant-loop-frame
invariant-loop-frame l = l.text.items ≡ l.initial.text.items ++ flat_map (next_frame l.texts) (take l.frame-index l.rest)
