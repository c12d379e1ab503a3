-- What proofs of other crates may cite.
pub use Rattle.pool_core.proofs.Words.{bytes_same, home_one, word_same}
pub use Rattle.pool_core.proofs.Stands.{new_live, next_within, small_size, stands_apart, stands_block, used_at}
pub use Rattle.pool_core.proofs.Blocks.{block_inside}
pub use Rattle.pool_core.proofs.Moves.{Took, gave, new_is_pool, took}
pub use Rattle.pool_core.proofs.Plains.{plain_is}
