pub mod Code
pub mod Marks
pub mod Nodes
pub mod Growing
pub mod Reading
pub mod ReasonCode
pub mod Asides
pub mod Words
