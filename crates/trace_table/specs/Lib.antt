pub mod Traces
pub mod Tracing
pub mod Plain
pub mod Ranks
pub mod Rows
