pub mod Record
pub mod Drawn
pub mod Laid
pub mod Tied
