pub mod Letter
pub mod Name
pub mod Offset
pub mod Plan
pub mod Texts
