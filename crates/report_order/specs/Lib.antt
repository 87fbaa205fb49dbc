pub mod Log
pub mod Order
pub mod Stamps
