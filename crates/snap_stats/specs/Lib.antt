pub mod Sums
pub mod Groups
pub mod Pairs
pub mod Answers
