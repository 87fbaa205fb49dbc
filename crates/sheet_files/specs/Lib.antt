pub mod DiskFile
pub mod MemoryFile
pub mod Names
pub mod Openings
pub mod Closing
pub mod inside
