pub mod CallerLemmas
mod BodyLemmas
