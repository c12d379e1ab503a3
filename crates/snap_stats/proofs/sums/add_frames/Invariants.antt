use Rattle.std.proofs.Common.{◌++◌, List, take}
use Rattle.mem_base.specs.declared.reply.Frame.{Frame}
use Rattle.snap_stats.specs.declared.sums.Sum.{Sum}
use Rattle.snap_stats.specs.Sums.{parts_at, same_frame, AddsUp}
use Rattle.snap_stats.proofs.sums.add_frames.Given as goal

abbrev pub invariant-loop-frame : goal.invariant-loop-frame
invariant-loop-frame l =
    (before : List (Frame × Sum)) → AddsUp same_frame before l.initial.sums.entries
    → AddsUp same_frame (before ++ parts_at l.by_line l.more (take l.frame-index l.frames)) l.sums.entries
