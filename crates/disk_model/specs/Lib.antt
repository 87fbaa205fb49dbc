pub mod Disk
pub mod Calls
pub mod Crash
pub mod Memory
pub mod Fuse
pub mod Fused
pub mod Laws
pub mod inside
