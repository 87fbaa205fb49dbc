pub mod Images
pub mod Steps
