pub mod Headers
pub mod Inputs
pub mod Scripting
pub mod Shows
