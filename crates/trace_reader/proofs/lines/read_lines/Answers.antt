use Rattle.std.proofs.Common.{arith}
use Rattle.std.specs.Prelude.{◌==◌}
use Rattle.trace_model.specs.Spelling.{line_end}
use Rattle.trace_model.specs.Plain.{plain}
use Rattle.trace_reader.proofs.Found.{trace_known}
use Rattle.trace_reader.proofs.LineSteps.{goes_on, stops}
use Rattle.trace_reader.proofs.lines.read_lines.Goals as goal

pub returns-in-Err-line-clause-read : goal.returns-in-Err-line-clause-read
returns-in-Err-line-clause-read c =
    let s = c.loop-text.progress in
    rw c.at.ensures (stops (λ b. b == line_end) c.loop-text.line (plain s.trace) c.loop-text.rest.now c.in-Some.text.now c.in-Some.after.now _
    c.in-Some.ensures.0 c.loop-text.invariant.read c.in-Err-line.error c.in-Err-line.ensures.read)

pub loop-text-preserved : goal.loop-text-preserved
loop-text-preserved c =
    let s = c.loop-text.progress in
    let t = c.line.new.self in
    record {
      read = goes_on (λ b. b == line_end) c.loop-text.line (plain s.trace) c.loop-text.rest.now c.in-Some.text.now c.in-Some.after.now _
          c.in-Some.ensures.0 c.loop-text.invariant.read (plain t.trace) c.in-Ok-line.ensures.read;
      known = c.in-Ok-line.ensures.known;
      count = omega (arith, c.loop-text.invariant.count, c.in-Some.ensures.1);
    }

pub returns-clause-known : goal.returns-clause-known
returns-clause-known c = trace_known c.loop-text.progress c.loop-text.invariant.known
