pub mod Questions
pub mod Held
