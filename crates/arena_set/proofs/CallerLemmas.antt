-- What proofs of other crates may cite.
pub use Rattle.arena_set.proofs.Flats.{all_at, flat_empty, flat_push, inside, part_removed, part_same}
pub use Rattle.arena_set.proofs.Lending.{PieceOf, piece_of}
pub use Rattle.arena_set.proofs.Regions.{regions_flat}
