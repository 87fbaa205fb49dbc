pub mod Input
pub mod Faults
pub mod Saying
pub mod Memory
pub mod Rescue
