pub mod CallerLemmas
pub mod NodeLemmas
mod LinkLemmas
mod Edits
mod Calls
mod Puts
