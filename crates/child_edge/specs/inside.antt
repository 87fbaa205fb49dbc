pub mod Gating
pub mod Ranks
pub mod Joining
