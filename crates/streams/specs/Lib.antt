pub mod Moves
pub mod Faults
pub mod Views
