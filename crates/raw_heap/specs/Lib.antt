pub mod Heap
pub mod Kept
