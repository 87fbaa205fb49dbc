pub mod Plans
pub mod Refused
pub mod Outside
pub mod Tasks
pub mod WholeProgram
pub mod inside
