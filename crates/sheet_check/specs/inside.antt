pub mod Checking
pub mod Accepting
pub mod Comparing
pub mod Faults
