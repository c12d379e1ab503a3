use Rattle.std.proofs.Common.{◌≡◌, ◌<◌, ◌∙◌, length, ap, sym, subst}
use Rattle.snap_filter.specs.Questions.{AskedOfFiles, AskedOfTraces, AreRight, IsFrameTest, trace_fits}
use Rattle.snap_filter.proofs.Filtering.{fits_trace, right_with}
use Rattle.snap_filter.proofs.frames.FrameTest.fits.Goals as goal

pub invariant_of-self : goal.invariant_of-self
invariant_of-self c =
    let asked : AskedOfTraces = record { files = c.self.inside.files; line = c.self.inside.line; all_frames = c.self.inside.all_frames; table = c.self.inside.table.now } in
    let is : c.some_fits-answer.result ≡ trace_fits asked c.args.trace
    = c.some_fits-answer.ensures.answer ∙ fits_trace asked c.args.trace c.frames.result.now c.frames_seen-frames.result.now c.frames.ensures c.frames_seen-frames.ensures in
    let within : c.args.trace.0 < length asked.table = subst (λ (a : AskedOfTraces). c.args.trace.0 < length a.table) (sym c.self.view_is) c.requires in
    let right = right_with (λ n. trace_fits asked (record { 0 = n })) (length asked.table) c.self.inside.known c.args.trace.0 c.some_fits-answer.result c.self.invariant.right within is in
    let now : IsFrameTest asked c.put.new.self = record {
      among = c.self.invariant.among;
      right = subst (AreRight (λ n. trace_fits asked (record { 0 = n })) (length asked.table)) (sym c.put.ensures) right;
    } in
    subst (λ (files : AskedOfFiles). IsFrameTest (record asked { files = files }) c.put.new.self) (sym c.some_fits-answer.ensures.same) now

pub returns-clause-answer : goal.returns-clause-answer
returns-clause-answer c =
    let asked : AskedOfTraces = record { files = c.self.inside.files; line = c.self.inside.line; all_frames = c.self.inside.all_frames; table = c.self.inside.table.now } in
    c.some_fits-answer.ensures.answer ∙ fits_trace asked c.args.trace c.frames.result.now c.frames_seen-frames.result.now c.frames.ensures c.frames_seen-frames.ensures
    ∙ ap (λ (a : AskedOfTraces). trace_fits a c.args.trace) c.self.view_is
