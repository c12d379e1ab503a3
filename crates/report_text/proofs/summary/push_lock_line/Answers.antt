use Rattle.report_model.specs.Report.{lock_line}
use Rattle.report_text.proofs.Joins.{three}
use Rattle.report_text.proofs.summary.push_lock_line.Goals as goal

pub returns-clause-ok : goal.returns-clause-ok
unfolding lock_line
returns-clause-ok c =
    three _ _ _ _ _ _ _ c.in_ok-extend_from_slice.ensures.items c.in_ok-extend_from_slice-2.ensures.items
    c.in_ok-push.ensures.items
