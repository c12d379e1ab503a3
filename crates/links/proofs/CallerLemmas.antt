-- What proofs of other crates may cite: what chains and lists of nodes have in common.
pub use Rattle.links.proofs.NodeLemmas.{Split, times-here, Contains-times, not_Contains-times, times-append, last_or-append, split, times-split}
