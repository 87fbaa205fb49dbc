pub mod Lines
pub mod Held
pub mod Laws
pub mod Watching
pub mod Turns
pub mod inside
