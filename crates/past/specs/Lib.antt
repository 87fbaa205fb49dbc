pub mod Faults
pub mod Earlier
pub mod History
pub mod inside
