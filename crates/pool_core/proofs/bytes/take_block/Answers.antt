use Rattle.pool_core.proofs.Words.{home_kept}
use Rattle.pool_core.proofs.Stands.{took_fresh}
use Rattle.pool_core.proofs.bytes.take_block.Goals as goal

pub returns-then-head-eq0-clause-off : goal.returns-then-head-eq0-clause-off
returns-then-head-eq0-clause-off c p s =
    (took_fresh c.args.r.now.cells c.take_fresh.new.r.cells c.args.at p.pool.class p.pool.arena p.pool.free p.pool.next p.next p.prev c.word-head.result c.take_fresh.result s c.word-head.ensures c.if-head-eq0.true (c.take_fresh.ensures.off p s) (c.take_fresh.ensures.header p s)).0

pub returns-then-head-eq0-clause-header : goal.returns-then-head-eq0-clause-header
returns-then-head-eq0-clause-header c p s =
    (took_fresh c.args.r.now.cells c.take_fresh.new.r.cells c.args.at p.pool.class p.pool.arena p.pool.free p.pool.next p.next p.prev c.word-head.result c.take_fresh.result s c.word-head.ensures c.if-head-eq0.true (c.take_fresh.ensures.off p s) (c.take_fresh.ensures.header p s)).1

pub returns-then-head-eq0-clause-home : goal.returns-then-head-eq0-clause-home
returns-then-head-eq0-clause-home c = home_kept _ _ c.args.at 48 c.take_fresh.ensures.only c.requires.stands.home

pub returns-else-head-eq0-clause-home : goal.returns-else-head-eq0-clause-home
returns-else-head-eq0-clause-home c = home_kept _ _ c.args.at 48 c.take_free.ensures.only c.requires.stands.home
