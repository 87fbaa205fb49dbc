pub mod LiveLines
pub mod Records
pub mod Saying
pub mod Arrivals
pub mod Gathering
pub mod LineEvents
pub mod Wrong
