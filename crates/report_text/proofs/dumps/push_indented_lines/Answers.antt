use Rattle.std.proofs.Common.{List, ℕ, ◌++◌, ap, sym, ◌∙◌, append_assoc}
use Rattle.report_model.specs.Report.{indented, indented_lines}
use Rattle.report_text.proofs.Joins.{line_more}
use Rattle.report_text.proofs.dumps.push_indented_lines.Goals as goal

pub loop-line-preserved : goal.loop-line-preserved
loop-line-preserved c =
    let so_far = c.loop-line.invariant in
    let line = indented c.in-Some.line.now in (
      so_far.0 ++ line,
      c.in_ok-push_indented.ensures.ok ∙ ap (λ (t : List ℕ). t ++ line) so_far.1
          ∙ append_assoc c.args.text.now.items so_far.0 line,
      append_assoc so_far.0 line (indented_lines c.in-Some.after.now)
          ∙ ap (λ (t : List ℕ). so_far.0 ++ t)
          (sym (line_more c.loop-line.rest.now c.in-Some.line.now c.in-Some.after.now c.in-Some.ensures.0)) ∙ so_far.2,
    )
