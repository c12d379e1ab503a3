use Rattle.layout_model.specs.Plain.{after_taking}
use Rattle.pool_core.specs.Calls.{InRun, OnlyAt}
use Rattle.pool_core.proofs.Words.{only_then}
use Rattle.pool_core.proofs.Stands.{take_done, take_stands}
use Rattle.pool_core.proofs.bytes.take.Goals as goal

module _ (c : goal.After-set_word) where
  only : OnlyAt (InRun c.args.at 48) c.args.r.now.cells c.set_word.new.r.cells
  only = only_then _ _ _ c.take_block-off.ensures.only c.set_word.ensures.within

pub is_full-requires : goal.is_full-requires
is_full-requires c = record {
  p = after_taking c.requires.p;
  stands = take_stands c.args.r.now.cells c.set_word.new.r.cells c.args.at c.word-live.result c.take_block-off.result c.requires.p c.requires.stands c.requires.room (only c) _ (c.take_block-off.ensures.header c.requires.p c.requires.stands) c.word-live.ensures c.set_word.ensures.header;
}

pub returns-clause-taken : goal.returns-clause-taken
returns-clause-taken c p s room =
    let done = only_then _ _ _ c.take_block-off.ensures.only c.set_word.ensures.within in
    let stands = take_stands c.args.r.now.cells c.set_word.new.r.cells c.args.at c.word-live.result c.take_block-off.result p s room done _ (c.take_block-off.ensures.header p s) c.word-live.ensures c.set_word.ensures.header in
    take_done c.args.r.now.cells c.set_word.new.r.cells c.args.at c.word-live.result c.take_block-off.result p s room done c.is_full.result stands (c.take_block-off.ensures.off p s) (c.is_full.ensures (after_taking p) stands)
