use Rattle.std.proofs.Common.{◌++◌, ap, ◌∙◌, sym}
use Rattle.mem_base.specs.declared.reply.Fault.{Fault}
use Rattle.report_model.specs.Report.{fault_line}
use Rattle.report_text.proofs.Joins.{five}
use Rattle.report_text.proofs.events.push_fault_line.Goals as goal

pub returns-in_ok-push-in-BadId-clause-ok : goal.returns-in_ok-push-in-BadId-clause-ok
unfolding fault_line
returns-in_ok-push-in-BadId-clause-ok c =
    five _ _ _ _ _ _ _ _ _ _ _ c.in_ok-extend_from_slice-in-BadId.ensures.items c.in_ok-push_hex-in-BadId.ensures.ok
    c.in_ok-extend_from_slice-in-BadId-2.ensures.items c.in_ok-push_hex-in-BadId-2.ensures.ok
    c.in_ok-push-in-BadId.ensures.items
    ∙ ap (λ (f : Fault). c.args.text.now.items ++ fault_line f) (sym c.in-BadId.is)
