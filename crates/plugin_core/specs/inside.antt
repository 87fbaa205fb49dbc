pub mod Changes
pub mod Words
