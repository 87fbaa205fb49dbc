pub mod OwnFaults
pub mod Runs
pub mod InOrder
pub mod Wanting
pub mod Gatherings
