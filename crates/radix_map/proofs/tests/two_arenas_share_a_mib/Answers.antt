use Rattle.std.proofs.Common.{rules}
use Rattle.extents.proofs.CallerLemmas.{has_new}
use Rattle.radix_map.proofs.tests.two_arenas_share_a_mib.Goals as goal

pub mark-requires-2-clause-free : goal.mark-requires-2-clause-free
mark-requires-2-clause-free g c = c.is_free.ensures.0 (search rules)

pub unmark-requires : goal.unmark-requires
unmark-requires g c = record { index = 1; there = has_new _ _ _ c.in_ok-mark-2.ensures }

pub mark-requires-3-clause-free : goal.mark-requires-3-clause-free
mark-requires-3-clause-free g c = c.is_free-3.ensures.0 (search rules)
