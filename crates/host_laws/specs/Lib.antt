pub mod Apart
pub mod Turns
pub mod Together
pub mod OneHost
pub mod Calls
pub mod Laws
pub mod inside
