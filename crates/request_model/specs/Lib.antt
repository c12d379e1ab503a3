pub mod Decision
pub mod Counts
pub mod Laws
