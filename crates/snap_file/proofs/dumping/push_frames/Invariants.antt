use Rattle.std.proofs.Common.{◌≡◌, ◌++◌, take}
use Rattle.std.specs.List.{flat_map}
use Rattle.frame_model.specs.Frames.{frames_of}
use Rattle.snap_file.specs.Words.{next_frame}
use Rattle.snap_file.proofs.dumping.push_frames.Given as goal

-- the frames so far
abbrev pub invariant-loop-frame : goal.invariant-loop-frame
invariant-loop-frame l =
    l.text.items ≡ l.fn.text.items ++ flat_map next_frame (frames_of l.texts (take l.frame-index l.frames))
