pub mod Two
pub mod Replayed
