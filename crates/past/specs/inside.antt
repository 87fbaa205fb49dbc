pub mod First
pub mod Listing
