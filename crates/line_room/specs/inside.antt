-- What private contracts cite.
pub mod Puts
