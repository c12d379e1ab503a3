use Rattle.frame_model.specs.Frames.{frames_of}
use Rattle.snap_file.proofs.Growth.{extends_then}
use Rattle.snap_file.proofs.RowSteps.{fails_on, frames_fail, frames_go_on}
use Rattle.snap_file.proofs.rows.read_frames.Goals as goal

pub returns-in_err-read_frame-clause-read : goal.returns-in_err-read_frame-clause-read
returns-in_err-read_frame-clause-read c =
    fails_on _ c.from_residual.result c.in_err-read_frame.field-0.0 _ c.from_residual.ensures.1
    (frames_fail (λ w. w.now) c.args.words.now c.loop-word.word-index _ c.loop-word-test.true
    (frames_of c.loop-word.texts c.loop-word.frames.items) _ c.loop-word.invariant.read c.in_err-read_frame.field-0.0
    c.in_err-read_frame.ensures.read)

pub loop-word-preserved : goal.loop-word-preserved
loop-word-preserved c = record {
  read = frames_go_on (λ w. w.now) c.args.words.now c.loop-word.word-index _ c.loop-word-test.true
      (frames_of c.loop-word.texts c.loop-word.frames.items) _ c.loop-word.invariant.read
      (frames_of c.read_frame.new.texts c.read_frame.new.frames.items) c.in_ok-read_frame.ensures.read;
  grows = extends_then c.loop-word.word-index 1 c.args.texts.now c.loop-word.texts c.read_frame.new.texts
      c.loop-word.invariant.grows c.in_ok-read_frame.ensures.grows;
  among = c.in_ok-read_frame.ensures.among;
}
