use Rattle.std.proofs.Common.{◌≡◌, length, map, drop}
use Rattle.frame_model.specs.Frames.{frames_of}
use Rattle.frame_stack.specs.Callers.{AreAmong}
use Rattle.dump_model.specs.Operands.{frames_in}
use Rattle.snap_file.specs.Plain.{Extends}
use Rattle.snap_file.specs.Steps.{frames_behind}
use Rattle.snap_file.proofs.rows.read_frames.Given as goal

-- the frames so far, and those of the words left behind them, are those of all words
abbrev pub invariant-loop-word : goal.invariant-loop-word
invariant-loop-word l = record {
  read : frames_behind (frames_of l.texts l.frames.items) (map (λ w. w.now) (drop l.word-index l.words)) ≡ frames_in (map (λ w. w.now) l.words);
  grows : Extends l.word-index l.fn.texts l.texts;
  among : AreAmong (length l.texts) l.frames.items;
}
