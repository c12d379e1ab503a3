use Rattle.extents.specs.Extent.{region_extent}
use Rattle.extents.proofs.CallerLemmas.{has_new}
use Rattle.sources.proofs.tests.two_arenas.Goals as goal

pub give-requires : goal.give-requires
give-requires g c =
    let got = c.in_ok-first.ensures.granted in let e = region_extent c.in_ok-first.first in
    (c.next_arena-second.ensures.stays e (has_new e _ _ got.added), got.home)
