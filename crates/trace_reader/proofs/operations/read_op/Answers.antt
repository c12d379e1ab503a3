use Rattle.std.proofs.Common.{arith}
use Rattle.std.proofs.lemmas.Grind.{common_steps}
use Rattle.trace_model.specs.Plain.{action_at}
use Rattle.trace_reader.proofs.operations.read_op.Goals as goal

pub returns-in-Refuse-len2-clause-op : goal.returns-in-Refuse-len2-clause-op
unfolding action_at
returns-in-Refuse-len2-clause-op c = let op = c.refuse.ensures.op c.args.texts.now in grind (arith, common_steps)

pub returns-in-Line-len1-clause-op : goal.returns-in-Line-len1-clause-op
unfolding action_at
returns-in-Line-len1-clause-op c = let op = c.go_to.ensures.op c.args.texts.now in grind (arith, common_steps)

pub returns-in-Start-len1-clause-op : goal.returns-in-Start-len1-clause-op
unfolding action_at
returns-in-Start-len1-clause-op c = let op = c.start.ensures.op c.args.texts.now in grind (arith, common_steps)

pub returns-in-Mark-len3-clause-op : goal.returns-in-Mark-len3-clause-op
unfolding action_at
returns-in-Mark-len3-clause-op c = let op = c.mark.ensures.op c.args.texts.now in grind (arith, common_steps)

pub returns-in-Unmark-len2-clause-op : goal.returns-in-Unmark-len2-clause-op
unfolding action_at
returns-in-Unmark-len2-clause-op c = let op = c.unmark.ensures.op c.args.texts.now in grind (arith, common_steps)
