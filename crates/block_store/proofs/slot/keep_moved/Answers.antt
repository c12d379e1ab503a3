use Rattle.std.proofs.Common.{ap, sym, ◌∙◌}
use Rattle.block_store.specs.Replies.{answer_of}
use Rattle.block_store.proofs.slot.keep_moved.Goals as goal

pub returns-in-Fault-clause-answer : goal.returns-in-Fault-clause-answer
returns-in-Fault-clause-answer c = λ texts. c.fault_reply-reply.ensures texts ∙ sym (ap answer_of c.in-Fault.is)
