pub mod CallerLemmas
mod DecisionLaws
