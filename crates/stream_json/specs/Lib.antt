pub mod Streams
pub mod StreamObjects
pub mod Laws
