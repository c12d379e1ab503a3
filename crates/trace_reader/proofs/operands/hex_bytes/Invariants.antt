use Rattle.std.proofs.Common.{◌≡◌, length}
use Rattle.trace_model.specs.Operands.{hex_from}
use Rattle.trace_reader.proofs.HexPairs.{with_front}
use Rattle.trace_reader.proofs.operands.hex_bytes.Given as goal

abbrev pub invariant-loop-rest : goal.invariant-loop-rest
invariant-loop-rest l = with_front l.bytes.items (hex_from l.rest) ≡ hex_from l.word

abbrev pub decreases-loop-rest : goal.decreases-loop-rest
decreases-loop-rest l = length l.rest
