use Rattle.std.proofs.Common.{◌∙◌, ap, drop, length, arith}
use Rattle.block_model.specs.Block.{fresh}
use Rattle.debug_guard.proofs.GuardLemmas.{dress_parts, filled-fresh, length-size_word, length-filled}
use Rattle.debug_guard.proofs.guarded.dress.Goals as goal

pub invariant_of-result : goal.invariant_of-result
invariant_of-result c =
    let at_start = ap length c.bytes_mut.ensures.value in let v = c.args.letter in let n = c.args.n in let b = c.fill_byte.result in
    let d = dress_parts _ _ _ _ _ n (length-size_word n) (length-filled v n 0 b (drop 16 c.bytes_mut.result.now) (omega arith) (omega arith)) (c.write_block.auto.bytes ∙ at_start) c.write_block.ensures in
    record { word = d.word_is; room = omega (arith, d.room_is); small = omega (arith, d.room_is, at_start, c.bytes_mut.type_inv) }

pub returns-clause-body : goal.returns-clause-body
returns-clause-body c =
    let at_start = ap length c.bytes_mut.ensures.value in let v = c.args.letter in let n = c.args.n in let b = c.fill_byte.result in
    let d = dress_parts _ _ _ _ _ n (length-size_word n) (length-filled v n 0 b (drop 16 c.bytes_mut.result.now) (omega arith) (omega arith)) (c.write_block.auto.bytes ∙ at_start) c.write_block.ensures in
    d.body_is ∙ filled-fresh v n b (drop 16 c.bytes_mut.result.now) ∙ ap (fresh v n) c.fill_byte.ensures
