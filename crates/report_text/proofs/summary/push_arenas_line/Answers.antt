use Rattle.report_model.specs.Report.{arenas_line}
use Rattle.report_text.proofs.Joins.{seven}
use Rattle.report_text.proofs.summary.push_arenas_line.Goals as goal

pub returns-clause-ok : goal.returns-clause-ok
unfolding arenas_line
returns-clause-ok c =
    seven _ _ _ _ _ _ _ _ _ _ _ _ _ _ _ c.in_ok-extend_from_slice.ensures.items c.in_ok-push_number.ensures.ok
    c.in_ok-extend_from_slice-2.ensures.items c.in_ok-push_number-2.ensures.ok
    c.in_ok-extend_from_slice-3.ensures.items c.in_ok-push_number-3.ensures.ok c.in_ok-push.ensures.items
