use Rattle.std.proofs.Common.{sym, subst, arith}
use Rattle.raw_region.proofs.CallerLemmas.{home_of_all}
use Rattle.extents.specs.Extent.{region_extent}
use Rattle.extents.specs.Sums.{Inserted}
use Rattle.raw_heap.specs.Kept.{AreKept, blocks}
use Rattle.raw_heap.proofs.Blocks.{region_comes}
use Rattle.raw_heap.proofs.heap.lend.Goals as goal

pub carve-piece-requires : goal.carve-piece-requires
carve-piece-requires c = (c.len.ensures.within.0, home_of_all c.args.region.cells c.requires.whole 0 c.len.result (omega (arith, c.len.ensures.len)))

pub unreachable-requires : goal.unreachable-requires
unreachable-requires c =
    let carved = c.carve-piece.ensures in
    let l = region_comes c.args.regions.now.entries c.requires.kept c.args.region c.carve-piece.new.self c.base.result c.len.result c.requires.apart c.len.ensures.len c.len.ensures.within.0 c.base.ensures carved.same carved.cells in
    let none = l.free in let had = c.in-Ok-Some.ensures.old in cc

pub returns-in-Ok-None-clause-added : goal.returns-in-Ok-None-clause-added
returns-in-Ok-None-clause-added c =
    let carved = c.carve-piece.ensures in let es = c.args.regions.now.entries in
    let l = region_comes es c.requires.kept c.args.region c.carve-piece.new.self c.base.result c.len.result c.requires.apart c.len.ensures.len c.len.ensures.within.0 c.base.ensures carved.same carved.cells in
    subst (λ new. Inserted (region_extent c.args.region) (blocks es) (blocks new)) (sym c.in-Ok-None.ensures.entries) l.added

pub returns-in-Ok-None-clause-kept : goal.returns-in-Ok-None-clause-kept
returns-in-Ok-None-clause-kept c =
    let carved = c.carve-piece.ensures in
    let l = region_comes c.args.regions.now.entries c.requires.kept c.args.region c.carve-piece.new.self c.base.result c.len.result c.requires.apart c.len.ensures.len c.len.ensures.within.0 c.base.ensures carved.same carved.cells in
    subst AreKept (sym c.in-Ok-None.ensures.entries) l.kept
