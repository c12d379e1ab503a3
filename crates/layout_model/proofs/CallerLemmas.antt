-- What proofs of other crates cite.
pub use Rattle.layout_model.proofs.Classes.{classes_are_least}
pub use Rattle.layout_model.proofs.Geometry.{some_pools, pools_are_in_arenas, pools_inside, address_tells_slot, in_arena_is, arena_has, in_arena_covers}
pub use Rattle.layout_model.proofs.Empty.{empty_layout_is_sound}
pub use Rattle.layout_model.proofs.Tallies.{only_none_total, one_if_same}
pub use Rattle.layout_model.proofs.Lists.{found_arena, tally_apart}
pub use Rattle.layout_model.proofs.Place.{many, granted_keeps, place_keeps}
pub use Rattle.layout_model.proofs.Unplace.{unplace_keeps}
pub use Rattle.layout_model.proofs.Asks.{only_refusals_place_nothing, requests_fit_their_class}
