pub mod Splitting
pub mod Giving
pub mod Rooms
pub mod Filling
pub mod Coming
pub mod Agreeing
pub mod Peeking
