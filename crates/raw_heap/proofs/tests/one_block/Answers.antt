use Rattle.extents.specs.Extent.{piece_extent}
use Rattle.extents.proofs.CallerLemmas.{has_new}
use Rattle.raw_heap.proofs.Got.{got_block, comes_and_goes}
use Rattle.raw_heap.proofs.tests.one_block.Goals as goal

pub free-requires-clause-loan : goal.free-requires-clause-loan
free-requires-clause-loan g c =
    let block = got_block c.args.n c.args.heap.now c.alloc.new.self _ _ c.in_ok-piece.ensures.got c.in-Some.piece c.in-Some.is in has_new (piece_extent c.in-Some.piece) _ _ block.added

pub returns-in-Some-clause-same : goal.returns-in-Some-clause-same
returns-in-Some-clause-same g c =
    let block = got_block c.args.n c.args.heap.now c.alloc.new.self _ _ c.in_ok-piece.ensures.got c.in-Some.piece c.in-Some.is in comes_and_goes (piece_extent c.in-Some.piece) _ _ _ block.added c.free.ensures.back
