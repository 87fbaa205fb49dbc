pub mod Story
pub mod Programs
pub mod Copies
pub mod Acts
