pub mod Choosing
pub mod Beside
