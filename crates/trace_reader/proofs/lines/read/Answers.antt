use Rattle.std.proofs.Common.{Bool, cond, sym, ap, subst, ◌∙◌, List, ℕ, Result, Err}
use Rattle.std.specs.Prelude.{◌==◌}
use Rattle.std.specs.List.{slice_split}
use Rattle.trace_model.specs.Plain.{PlainTrace, plain}
use Rattle.trace_model.specs.Spelling.{line_end}
use Rattle.trace_model.specs.declared.cause.TraceCause.TheVariants.{BadHeader}
use Rattle.trace_model.specs.Reading.{trace_at, lines_at, header_at, opening, Stop}
use Rattle.trace_model.proofs.CallerLemmas.{with_header}
use Rattle.trace_reader.specs.Answers.{Reads}
use Rattle.trace_reader.proofs.lines.read.Goals as goal

abbrev either : List ℕ → Bool → Result PlainTrace Stop
either rest b = cond b (lines_at 2 opening (slice_split (λ b. b == line_end) rest)) (Err (1, BadHeader))

pub returns-then-is_header-clause-read : goal.returns-then-is_header-clause-read
unfolding trace_at
returns-then-is_header-clause-read c =
    let first = with_header (λ b. b == line_end) c.args.bytes.now c.in-Some.first.now c.in-Some.rest.now c.in-Some.ensures.0 in
    subst (Reads plain c.read_lines.result) (sym (first ∙ ap (either c.in-Some.rest.now) (sym c.is_header.ensures ∙ c.if-is_header.true))) c.read_lines.ensures.read

pub returns-else-is_header-clause-read : goal.returns-else-is_header-clause-read
unfolding trace_at
returns-else-is_header-clause-read c =
    with_header (λ b. b == line_end) c.args.bytes.now c.in-Some.first.now c.in-Some.rest.now c.in-Some.ensures.0
    ∙ ap (either c.in-Some.rest.now) (sym c.is_header.ensures ∙ c.if-is_header.false)

pub returns-in-None-clause-read : goal.returns-in-None-clause-read
unfolding trace_at
returns-in-None-clause-read c = ap header_at c.in-None.ensures ∙ ap (λ e. Err (1, e)) (sym c.end_cause.ensures)
