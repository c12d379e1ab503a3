use Rattle.std.proofs.Common.{◌≤◌, length, arith}
use Rattle.extents.specs.Extent.{region_extent}
use Rattle.extents.proofs.CallerLemmas.{has_kept, has_new, has_other, meets_other}
use Rattle.sources.proofs.tests.next_arena.Goals as goal

pub give-requires : goal.give-requires
give-requires g c = let got = c.in_ok-region.ensures.granted in (has_new (region_extent c.in_ok-region.region) _ _ got.added, got.home)

pub returns-clause-stays : goal.returns-clause-stays
returns-clause-stays g c d there =
    let got = c.in_ok-region.ensures in let e = region_extent c.in_ok-region.region in
    let some : 1 ≤ length c.in_ok-region.region.cells = omega (arith, got.arena.len) in
    has_other e d _ _ c.give.ensures.back (has_kept e d _ _ got.granted.added there) (meets_other e d _ some got.granted.apart there)
