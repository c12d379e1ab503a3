pub mod CallerLemmas
mod Crossing
mod Rows
pub mod Rules
mod Runs
mod Sharing
mod Shells
mod Walks
