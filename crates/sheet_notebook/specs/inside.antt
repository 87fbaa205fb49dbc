pub mod Adds
pub mod Blank
pub mod Outputs
