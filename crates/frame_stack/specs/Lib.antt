pub mod Callers
pub mod Tracebacks
