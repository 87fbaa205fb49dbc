pub mod Calls
pub mod Answers
pub mod Parts
pub mod Deeds
pub mod Handing
pub mod Pipes
