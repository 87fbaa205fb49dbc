pub mod Voice
pub mod Words
pub mod Faults
pub mod Json
pub mod inside
