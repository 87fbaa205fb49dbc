pub mod Accepting
pub mod Copying
pub mod Evaluating
pub mod FiledUses
pub mod Leaving
pub mod Parts
pub mod Printing
pub mod Visiting
