pub mod Patterns
pub mod Laws
