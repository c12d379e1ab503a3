use Rattle.std.proofs.Common.{◌≡◌, drop}
use Rattle.trace_model.specs.Reading.{head_among, head_at}
use Rattle.trace_reader.proofs.operands.head.Given as goal

-- the heads left give what all give
abbrev pub invariant-loop-head : goal.invariant-loop-head
invariant-loop-head l = head_among (drop l.head-index l.heads) l.word ≡ head_at l.word
