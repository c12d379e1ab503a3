-- What proofs of other crates may cite: how a pattern is read.
pub use Rattle.pattern_model.proofs.Reading.{first_within, reads_in_turn}
