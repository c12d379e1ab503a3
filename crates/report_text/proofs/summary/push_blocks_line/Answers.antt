use Rattle.report_model.specs.Report.{blocks_line}
use Rattle.report_text.proofs.Joins.{five}
use Rattle.report_text.proofs.summary.push_blocks_line.Goals as goal

pub returns-clause-ok : goal.returns-clause-ok
unfolding blocks_line
returns-clause-ok c =
    five _ _ _ _ _ _ _ _ _ _ _ c.in_ok-extend_from_slice.ensures.items c.in_ok-push_number.ensures.ok
    c.in_ok-extend_from_slice-2.ensures.items c.in_ok-push_wide.ensures.ok c.in_ok-push.ensures.items
