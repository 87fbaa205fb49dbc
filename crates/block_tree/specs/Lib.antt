pub mod Tree
pub mod Shape
pub mod Output
pub mod View
pub mod Same
pub mod Reasons
pub mod inside
