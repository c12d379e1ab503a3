-- What proofs of other crates may cite: how tables change with the blocks of a heap, and where its pools stand.
pub use Rattle.heap_model.proofs.Pools.{tally_once, number_self, used_here, listed_pool, spot_once, spot_tells, tally_some}
pub use Rattle.heap_model.proofs.Ground.{placed_pool, address_finds_pool, places_differ, pools_do_not_meet}
pub use Rattle.heap_model.proofs.Returned.{dry_arena_gets_pool, usable_arena_is_put, whole_arena_goes_back}
pub use Rattle.heap_model.proofs.Counts.{mended_and_gone, started_and_lent, arenas_are_free, lists_have_open_pools}
pub use Rattle.heap_model.proofs.Members.{pool_is_listed, first_has_room, places_are_of_pools}
pub use Rattle.heap_model.proofs.Placed.{refused_is_not_placed, new_pool_is_placed, one_more_is_placed, last_one_is_placed}
pub use Rattle.heap_model.proofs.Numbered.{numbered_at, numbered_goes}
pub use Rattle.heap_model.proofs.Places.{places_long, place_there}
pub use Rattle.heap_model.proofs.Orderly.{has_after}
pub use Rattle.heap_model.proofs.Unplaced.{freed_full_is_unplaced, freed_one_is_unplaced}
pub use Rattle.heap_model.proofs.Empty.{empty_tables_are_kept}
pub use Rattle.heap_model.proofs.Layouts.{LineOf, layout_has, class_has, line_of_pool}
