use Rattle.std.proofs.Common.{◌≡◌, ◌≤◌, ◌-◌, length, drop}
use Rattle.snapshot_model.specs.Stats.{key_cmp}
use Rattle.frame_model.specs.Frames.{frames_of}
use Rattle.snap_stats.proofs.order.compare_keys.Given as goal

abbrev pub invariant-loop-i : goal.invariant-loop-i
invariant-loop-i l = record {
  left : l.i ≤ length l.a;
  right : l.i ≤ length l.b;
  rest : key_cmp (frames_of l.texts l.a) (frames_of l.texts l.b) ≡ key_cmp (frames_of l.texts (drop l.i l.a)) (frames_of l.texts (drop l.i l.b));
}

abbrev pub decreases-loop-i : goal.decreases-loop-i
decreases-loop-i l = length l.a - l.i
