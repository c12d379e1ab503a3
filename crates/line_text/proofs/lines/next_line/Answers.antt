use Rattle.std.proofs.Common.{◌==◌, arith}
use Rattle.trace_model.specs.Spelling.{line_end}
use Rattle.line_text.proofs.Parts.{uncut, cut}
use Rattle.line_text.proofs.lines.next_line.Goals as goal

pub returns-in-Some : goal.returns-in-Some
returns-in-Some c =
    let h = c.in-Some.ensures in
    cut (λ b. b == line_end) c.args.bytes.now c.in-Some.at h.0.high (λ j lt. h.0.before j (omega arith) lt) h.1

pub returns-in-None : goal.returns-in-None
returns-in-None c = uncut (λ b. b == line_end) c.args.bytes.now (λ k lt. c.in-None.ensures k (omega arith) lt)
