use Rattle.debug_guard.proofs.GuardLemmas.{resize_parts}
use Rattle.debug_guard.proofs.guarded.resize.Goals as goal

pub invariant_of-g : goal.invariant_of-g
invariant_of-g c =
    (resize_parts c.g.inside.piece c.args.g.now c.bytes_mut.result.now c.write_block.new.bytes c.args.letter c.args.n c.g.inside.size c.min-kept.result
    c.g.view_is c.g.invariant c.bytes_mut.ensures.value c.requires c.min-kept.ensures c.write_block.auto.bytes c.write_block.ensures).dressed

pub returns-clause-body : goal.returns-clause-body
returns-clause-body c =
    (resize_parts c.g.inside.piece c.args.g.now c.bytes_mut.result.now c.write_block.new.bytes c.args.letter c.args.n c.g.inside.size c.min-kept.result
    c.g.view_is c.g.invariant c.bytes_mut.ensures.value c.requires c.min-kept.ensures c.write_block.auto.bytes c.write_block.ensures).body_is

pub returns-clause-rest : goal.returns-clause-rest
returns-clause-rest c =
    (resize_parts c.g.inside.piece c.args.g.now c.bytes_mut.result.now c.write_block.new.bytes c.args.letter c.args.n c.g.inside.size c.min-kept.result
    c.g.view_is c.g.invariant c.bytes_mut.ensures.value c.requires c.min-kept.ensures c.write_block.auto.bytes c.write_block.ensures).rest_is

pub returns-clause-extent : goal.returns-clause-extent
returns-clause-extent c =
    (resize_parts c.g.inside.piece c.args.g.now c.bytes_mut.result.now c.write_block.new.bytes c.args.letter c.args.n c.g.inside.size c.min-kept.result
    c.g.view_is c.g.invariant c.bytes_mut.ensures.value c.requires c.min-kept.ensures c.write_block.auto.bytes c.write_block.ensures).extent_is
