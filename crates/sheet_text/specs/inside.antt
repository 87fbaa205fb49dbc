pub mod PlainRuns
pub mod Spelled
