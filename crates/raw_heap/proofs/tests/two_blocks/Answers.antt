use Rattle.std.proofs.Common.{◌≤◌, length, sym, ap, arith}
use Rattle.extents.specs.Extent.{piece_extent}
use Rattle.extents.proofs.CallerLemmas.{has_new, has_other, length_inserted, meets_other}
use Rattle.raw_heap.proofs.Got.{got_block, got_none, comes_before_it_goes}
use Rattle.raw_heap.proofs.tests.two_blocks.Goals as goal

pub free-requires-clause-loan : goal.free-requires-clause-loan
free-requires-clause-loan g c =
    let first = got_block c.args.n c.args.heap.now c.alloc.new.self _ _ c.in_ok-piece.ensures.got c.in-Some.first c.in-Some.is in
    let e = piece_extent c.in-Some.first in c.alloc-second.ensures.stay e (has_new e _ _ first.added)

pub returns-in_err-piece-2-clause-same : goal.returns-in_err-piece-2-clause-same
returns-in_err-piece-2-clause-same g c =
    let first = got_block c.args.n c.args.heap.now c.alloc.new.self _ _ c.in_ok-piece.ensures.got c.in-Some.first c.in-Some.is in
    comes_before_it_goes (piece_extent c.in-Some.first) c.args.heap.now c.alloc.new.self c.alloc-second.new.self c.free.new.self first.added (ap length c.in_err-piece-2.ensures.failed) c.free.ensures.back

pub free-requires-in-Some-piece-clause-loan : goal.free-requires-in-Some-piece-clause-loan
free-requires-in-Some-piece-clause-loan g c =
    let first = got_block c.args.n c.args.heap.now c.alloc.new.self _ _ c.in_ok-piece.ensures.got c.in-Some.first c.in-Some.is in
    let second = got_block c.args.m c.alloc.new.self c.alloc-second.new.self _ _ c.in_ok-piece-2.ensures.got c.in-Some-piece.second c.in-Some-piece.is in
    let a = piece_extent c.in-Some.first in let b = piece_extent c.in-Some-piece.second in
    let some : 1 ≤ b.len = omega (arith, second.len) in
    let out = c.alloc.ensures.traded.held a (has_new a _ _ first.added) in
    has_other a b c.alloc-second.new.self c.free.new.self c.free.ensures.back (has_new b _ _ second.added) (λ same. meets_other b a _ some second.apart out (sym same))

pub returns-in-Some-piece-clause-same : goal.returns-in-Some-piece-clause-same
returns-in-Some-piece-clause-same g c =
    let first = got_block c.args.n c.args.heap.now c.alloc.new.self _ _ c.in_ok-piece.ensures.got c.in-Some.first c.in-Some.is in
    let second = got_block c.args.m c.alloc.new.self c.alloc-second.new.self _ _ c.in_ok-piece-2.ensures.got c.in-Some-piece.second c.in-Some-piece.is in
    let a = piece_extent c.in-Some.first in let b = piece_extent c.in-Some-piece.second in
    omega (
      arith,
      length_inserted a c.args.heap.now c.alloc.new.self first.added,
      length_inserted b c.alloc.new.self c.alloc-second.new.self second.added,
      length_inserted a c.free.new.self c.alloc-second.new.self c.free.ensures.back,
      length_inserted b c.free-in-Some-piece.new.self c.free.new.self c.free-in-Some-piece.ensures.back,
    )

pub returns-in-None-clause-same : goal.returns-in-None-clause-same
returns-in-None-clause-same g c =
    let first = got_block c.args.n c.args.heap.now c.alloc.new.self _ _ c.in_ok-piece.ensures.got c.in-Some.first c.in-Some.is in
    let none = got_none c.args.m c.alloc.new.self c.alloc-second.new.self _ _ c.in_ok-piece-2.ensures.got c.in-None.is in
    comes_before_it_goes (piece_extent c.in-Some.first) c.args.heap.now c.alloc.new.self c.alloc-second.new.self c.free.new.self first.added (ap length none) c.free.ensures.back
