pub mod Cut
pub mod Rows
pub mod Voices
