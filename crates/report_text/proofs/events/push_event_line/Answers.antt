use Rattle.std.proofs.Common.{arith}
use Rattle.std.proofs.lemmas.Grind.{common_steps}
use Rattle.report_model.specs.Report.{event_line}
use Rattle.report_text.proofs.events.push_event_line.Goals as goal

pub returns-clause-ok : goal.returns-clause-ok
unfolding event_line
returns-clause-ok c = let reply = c.in_ok-push_reply.ensures.ok c.args.texts.now in grind (arith, common_steps)

pub returns-in_err-push-2-clause-err : goal.returns-in_err-push-2-clause-err
returns-in_err-push-2-clause-err c =
    let reply = c.in_ok-push_reply.ensures.ok c.args.texts.now in grind (arith, common_steps)
