pub mod Bits
pub mod Holder
pub mod Kept
pub mod Memory
pub mod Source
