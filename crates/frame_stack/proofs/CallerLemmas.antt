-- What proofs of other crates may cite: a number means the same frames as the table grows.
pub use Rattle.frame_stack.proofs.StackLemmas.{stays}
