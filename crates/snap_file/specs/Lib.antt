pub mod Answers
pub mod Plain
pub mod Steps
pub mod Words
