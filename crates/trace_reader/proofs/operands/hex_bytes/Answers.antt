use Rattle.std.proofs.Common.{sym, ◌∙◌}
use Rattle.trace_model.specs.Operands.{hex_from}
use Rattle.trace_reader.proofs.HexPairs.{pair_read}
use Rattle.trace_reader.proofs.operands.hex_bytes.Goals as goal

pub loop-rest-preserved : goal.loop-rest-preserved
loop-rest-preserved c =
    pair_read c.loop-rest.bytes.items c.push.new.self.items c.loop-rest.rest.now c.in-Some-Some.high c.in-Some-Some.low (hex_from c.args.word.now) c.in_ok-push-in-Some-Some.ensures.items c.in-len2-up.len_at_least
    (sym c.digit.ensures ∙ c.in-Some-Some.is-0) (sym c.digit-in-len2-up.ensures ∙ c.in-Some-Some.is-1) c.loop-rest.invariant
