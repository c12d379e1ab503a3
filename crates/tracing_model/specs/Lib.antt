pub mod Traces
pub mod Tracing
pub mod Laws
