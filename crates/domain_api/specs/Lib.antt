pub mod Domains
pub mod Held
