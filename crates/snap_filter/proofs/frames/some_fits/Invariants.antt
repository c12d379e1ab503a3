use Rattle.std.proofs.Common.{◌≡◌, ℕ, false, take}
use Rattle.std.specs.List.{list_any}
use Rattle.frame_model.specs.Frames.{frame_of}
use Rattle.snapshot_model.specs.Rules.{frame_fits}
use Rattle.snap_filter.proofs.frames.some_fits.Given as goal

abbrev pub invariant-loop-frame : goal.invariant-loop-frame
invariant-loop-frame l = record {
  none : list_any (λ f. frame_fits l.line l.initial.files.pattern (frame_of l.initial.files.texts f)) (take l.frame-index l.frames) ≡ false;
  same : l.files ≡ l.initial.files;
}
