mod RunLemmas
mod PieceLemmas
mod SetLemmas
