pub mod CallerLemmas
mod StackLemmas
mod TableLemmas
