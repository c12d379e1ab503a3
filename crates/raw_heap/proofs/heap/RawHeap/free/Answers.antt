use Rattle.std.proofs.Common.{sym, subst}
use Rattle.extents.specs.Extent.{piece_extent}
use Rattle.extents.specs.Sums.{AllIn, Has, Removed}
use Rattle.sources.specs.Holder.{Traded}
use Rattle.sources.proofs.CallerLemmas.{traded_gave}
use Rattle.raw_heap.specs.Kept.{blocks}
use Rattle.raw_heap.proofs.Blocks.{some_bytes}
use Rattle.raw_heap.proofs.heap.RawHeap.free.Goals as goal

pub give-requires : goal.give-requires
give-requires g c =
    let out = (g.R.RawSource.seen c.args.raws.now).out in let back = c.take_back-region.ensures in
    (subst (λ e. Has e out) (sym back.region) (c.requires.held (piece_extent c.args.piece) c.requires.loan), back.whole)

pub returns-clause-traded : goal.returns-clause-traded
returns-clause-traded g c =
    let old = g.R.RawSource.seen c.args.raws.now in let new = g.R.RawSource.seen c.give.new.self in
    let es = c.self.inside.regions.entries in let e = piece_extent c.args.piece in let back = c.take_back-region.ensures in
    let some = some_bytes es c.self.invariant e (subst (λ h. Has e h) (sym c.self.view_is) c.requires.loan) in
    subst (λ held. Traded held (blocks c.take_back-region.new.regions.entries) old new) c.self.view_is
    (traded_gave (blocks es) (blocks c.take_back-region.new.regions.entries) old new (subst (λ h. AllIn h old.out) (sym c.self.view_is) c.requires.held) c.give.ensures.window c.give.ensures.shape e some c.self.invariant.apart back.back
    (subst (λ d. Removed d old.out new.out) back.region c.give.ensures.back))
