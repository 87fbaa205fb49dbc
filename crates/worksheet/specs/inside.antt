pub mod NameInside
pub mod Codes
pub mod Entries
pub mod SheetInside
pub mod Words
