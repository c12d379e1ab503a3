use Rattle.std.proofs.Common.{None, Some, ap, arith, refl}
use Rattle.std.specs.Prelude.{◌==◌}
use Rattle.std.specs.List.{slice_split}
use Rattle.trace_model.specs.Spelling.{line_end}
use Rattle.dump_model.specs.Reading.{Place, dumps_at, lines_at}
use Rattle.snap_file.specs.Plain.{place_of}
use Rattle.snap_file.proofs.Growth.{is_loaded}
use Rattle.snap_file.proofs.LineSteps.{ends, goes_on, stops}
use Rattle.snap_file.proofs.loading.read.Goals as goal

pub loop-text-init : goal.loop-text-init
unfolding dumps_at
loop-text-init c = record {
  read = ap (λ (q : Place). lines_at 1 q (slice_split (λ b. b == line_end) c.args.bytes.now)) c.in-Ok.ensures.start;
  known = c.in-Ok.ensures.known;
  texts = omega (arith, c.in-Ok.ensures.texts);
  table = omega (arith, c.in-Ok.ensures.table);
  count = omega arith;
}

pub returns-in-Err-line-clause-exact : goal.returns-in-Err-line-clause-exact
returns-in-Err-line-clause-exact c =
    rw c.at.ensures (stops (λ b. b == line_end) c.loop-text.line (place_of c.loop-text.progress) c.loop-text.rest.now
    c.in-Some.text.now c.in-Some.after.now _ c.in-Some.ensures.0 c.loop-text.invariant.read c.in-Err-line.error
    c.in-Err-line.ensures.read)

pub loop-text-preserved : goal.loop-text-preserved
loop-text-preserved c =
    let h = c.loop-text.invariant in
    let grew = c.in-Ok-line.ensures.grew in
    record {
      read = goes_on (λ b. b == line_end) c.loop-text.line (place_of c.loop-text.progress) c.loop-text.rest.now
          c.in-Some.text.now c.in-Some.after.now _ c.in-Some.ensures.0 h.read (place_of c.line.new.self) c.in-Ok-line.ensures.read;
      known = c.in-Ok-line.ensures.known;
      texts = omega (arith, h.texts, grew.texts, c.in-Some.ensures.1);
      table = omega (arith, h.table, grew.table, c.in-Some.ensures.1);
      count = omega (arith, h.count, c.in-Some.ensures.1);
    }

pub returns-in-Some-end_fault-clause-exact : goal.returns-in-Some-end_fault-clause-exact
returns-in-Some-end_fault-clause-exact c =
    let at = place_of c.loop-text.progress in
    ends (λ b. b == line_end) c.loop-text.line at c.loop-text.rest.now _ c.in_default.ensures c.loop-text.invariant.read
    (Some c.in-Some-end_fault.cause) (c.in-Some-end_fault.ensures at refl)

pub returns-clause-exact : goal.returns-clause-exact
returns-clause-exact c =
    let at = place_of c.loop-text.progress in
    ends (λ b. b == line_end) c.loop-text.line at c.loop-text.rest.now _ c.in_default.ensures c.loop-text.invariant.read
    None (c.in-None.ensures at refl)

pub returns-clause-held : goal.returns-clause-held
returns-clause-held c = is_loaded c.loop-text.progress c.loop-text.invariant.known
