use Rattle.std.proofs.Common.{◌≡◌, ◌+◌, ◌≤◌, length}
use Rattle.std.specs.Prelude.{◌==◌}
use Rattle.std.specs.List.{slice_split}
use Rattle.trace_model.specs.Spelling.{line_end}
use Rattle.dump_model.specs.Reading.{dumps_at, lines_at}
use Rattle.snap_file.specs.Plain.{IsKnownSoFar, place_of}
use Rattle.snap_file.proofs.loading.read.Given as goal

-- the lines that are left lead to what all lines lead to, and there are no more texts and tracebacks than bytes were read
abbrev pub invariant-loop-text : goal.invariant-loop-text
invariant-loop-text l = record {
  read : lines_at l.line (place_of l.progress) (slice_split (λ b. b == line_end) l.rest) ≡ dumps_at l.bytes l.count;
  known : IsKnownSoFar l.progress;
  texts : length l.progress.loaded.texts + length l.rest ≤ length l.bytes + 1;
  table : length l.progress.loaded.table + length l.rest ≤ length l.bytes;
  count : l.line + length l.rest ≤ length l.bytes + 1;
}

abbrev pub decreases-loop-text : goal.decreases-loop-text
decreases-loop-text l = length l.rest
