pub mod Meaning
pub mod Changes
pub mod InRounds
pub mod Together
pub mod Looking
