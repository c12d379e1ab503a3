use Rattle.std.proofs.Common.{◌≡◌, drop}
use Rattle.trace_model.specs.Operands.{digits_from}
use Rattle.line_text.proofs.operands.digits.Given as goal

abbrev pub invariant-loop-byte : goal.invariant-loop-byte
invariant-loop-byte l = digits_from l.value (drop l.byte-index l.word) ≡ digits_from 0 l.word
