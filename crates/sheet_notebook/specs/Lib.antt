pub mod inside
pub mod Formulas
pub mod Pictures
pub mod Parts
pub mod Empty
pub mod Laws
pub mod Strings
pub mod Notebook
