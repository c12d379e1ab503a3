use Rattle.std.proofs.Common.{◌≤◌, ◌-◌, length}
use Rattle.trace_reader.proofs.TrackSteps.{NoneBefore}
use Rattle.trace_reader.proofs.progress.track_named.Given as goal

-- no track so far has the name
abbrev pub invariant-loop-track : goal.invariant-loop-track
invariant-loop-track l = record {
  none : NoneBefore l.texts l.tracks l.name l.at;
  few : l.at ≤ length l.tracks;
}

abbrev pub decreases-loop-track : goal.decreases-loop-track
decreases-loop-track l = length l.tracks - l.at
