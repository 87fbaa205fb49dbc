pub mod Groups
pub mod Faults
pub mod Endings
pub mod Looked
pub mod Choices
