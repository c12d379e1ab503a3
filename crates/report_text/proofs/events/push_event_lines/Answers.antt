use Rattle.event_model.specs.Replies.{plain_reply}
use Rattle.report_model.specs.Report.{more_lines}
use Rattle.report_text.proofs.Joins.{then_more}
use Rattle.report_text.proofs.events.push_event_lines.Goals as goal

pub returns-clause-ok : goal.returns-clause-ok
returns-clause-ok c =
    then_more c.push_more_lines.result _ _ _ _ _ _ (λ name. more_lines name (plain_reply c.args.texts.now c.args.reply.now))
    c.in_ok-push_event_line.ensures.ok c.name_of_block.ensures c.push_more_lines.ensures.ok
