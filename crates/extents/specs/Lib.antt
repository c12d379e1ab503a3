pub mod Extent
pub mod Sums
