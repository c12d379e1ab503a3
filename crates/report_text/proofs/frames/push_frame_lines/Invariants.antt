use Rattle.std.proofs.Common.{◌≡◌, ◌++◌, take}
use Rattle.std.specs.List.{flat_map}
use Rattle.event_model.specs.Replies.{frame_of}
use Rattle.report_model.specs.Report.{frame_line}
use Rattle.report_text.proofs.frames.push_frame_lines.Given as goal

-- the lines so far
abbrev pub invariant-loop-frame : goal.invariant-loop-frame
invariant-loop-frame l =
    l.text.items ≡ l.fn.text.items ++ flat_map (λ f. frame_line (frame_of l.texts f)) (take l.frame-index l.kept)
