pub mod Reading
pub mod Within
pub mod Refusing
