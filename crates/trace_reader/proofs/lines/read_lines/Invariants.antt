use Rattle.std.proofs.Common.{◌≡◌, ◌+◌, ◌≤◌, length}
use Rattle.std.specs.Prelude.{◌==◌}
use Rattle.std.specs.List.{slice_split}
use Rattle.trace_model.specs.Plain.{plain}
use Rattle.trace_model.specs.Spelling.{line_end}
use Rattle.trace_model.specs.Reading.{lines_at, opening}
use Rattle.trace_reader.specs.Progress.{IsKnownSoFar}
use Rattle.trace_reader.proofs.lines.read_lines.Given as goal

-- the lines that are left lead to what all lines lead to
abbrev pub invariant-loop-text : goal.invariant-loop-text
invariant-loop-text l = record {
  read : lines_at l.line (plain l.progress.trace) (slice_split (λ b. b == line_end) l.rest) ≡ lines_at 2 opening (slice_split (λ b. b == line_end) l.bytes);
  known : IsKnownSoFar l.progress;
  count : l.line + length l.rest ≤ length l.bytes + 2;
}

abbrev pub decreases-loop-text : goal.decreases-loop-text
decreases-loop-text l = length l.rest
