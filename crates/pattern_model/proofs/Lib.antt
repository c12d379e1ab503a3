mod Reading
pub mod CallerLemmas
