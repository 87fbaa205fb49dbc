pub mod Said
pub mod Gatherings
