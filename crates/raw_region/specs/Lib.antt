pub mod Cells
pub mod Fields
pub mod Lending
pub mod Ownership
pub mod Region
