pub mod Cause
pub mod Spelling
pub mod Operands
pub mod Reading
pub mod Laws
