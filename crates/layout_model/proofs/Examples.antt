-- The worked heaps.
use Rattle.std.proofs.Common.{refl}
use Rattle.layout_model.specs.Examples.{ArenasAreUsedUp, ArenasRiseInFreePools, TheLastArenaStays}

pub arenas_are_used_up : ArenasAreUsedUp
arenas_are_used_up = (refl, refl, refl, refl, refl)

pub arenas_rise_in_free_pools : ArenasRiseInFreePools
arenas_rise_in_free_pools = (refl, refl, refl)

pub the_last_arena_stays : TheLastArenaStays
the_last_arena_stays = (refl, refl, refl, refl, refl)
