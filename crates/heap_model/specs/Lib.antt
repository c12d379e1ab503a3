pub mod Tables
pub mod View
pub mod Kept
pub mod Changes
pub mod Laws
pub mod Ground
