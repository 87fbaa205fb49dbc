pub mod Read
pub mod Sound
pub mod Telling
pub mod Reading
pub mod Writing
pub mod Items
pub mod Examples
pub mod Requests
