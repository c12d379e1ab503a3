use Rattle.std.proofs.Common.{map, sym, ap, ◌∙◌, arith}
use Rattle.std.specs.Prelude.{codes}
use Rattle.trace_model.specs.Reading.{is_empty}
use Rattle.std.proofs.lemmas.List.{length-map}
use Rattle.snap_file.proofs.LineSteps.{same_by}
use Rattle.snap_file.proofs.RowSteps.{gives_as}
use Rattle.snap_file.proofs.WordSteps.{any_map, is_bad, is_row}
use Rattle.snap_file.proofs.progress.Progress.row_or_end.Goals as goal

pub returns-then-has_empty-clause-read : goal.returns-then-has_empty-clause-read
returns-then-has_empty-clause-read c =
    let ws = c.in-Some.operands.now in
    is_bad c.args.self.now c.args.limit c.requires.at _ c.in-Some.first.now.now (map (λ w. w.now) ws)
    (ap (map (λ w. w.now)) c.in-Some.ensures.cases.0)
    (same_by c.in-Some.first.now.now c.as_slice-2.result.now (codes "trace") c.ne.result c.ne.ensures c.if-ne.false c.as_slice-2.ensures)
    (any_map is_empty (λ w. w.now) ws ∙ sym c.has_empty.ensures ∙ c.if-has_empty.true)

pub returns-clause-read : goal.returns-clause-read
returns-clause-read c =
    let ws = c.in-Some.operands.now in
    gives_as _ c.row.result _ _ (is_row c.args.self.now c.args.limit c.requires.at _ c.in-Some.first.now.now (map (λ w. w.now) ws)
    (ap (map (λ w. w.now)) c.in-Some.ensures.cases.0)
    (same_by c.in-Some.first.now.now c.as_slice-2.result.now (codes "trace") c.ne.result c.ne.ensures c.if-ne.false c.as_slice-2.ensures)
    (any_map is_empty (λ w. w.now) ws ∙ sym c.has_empty.ensures ∙ c.if-has_empty.false)
    (omega (arith, c.if-operands-lt5.false, length-map ws (λ w. w.now)))) c.row.ensures.read
