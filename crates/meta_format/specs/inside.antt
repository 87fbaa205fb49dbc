pub mod Rows
pub mod Machine
pub mod Levels
pub mod Scan
pub mod Flat
pub mod Named
pub mod Finding
