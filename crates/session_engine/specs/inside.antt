-- What only proofs and private clauses use.
pub mod Words
pub mod Parts
pub mod Tables
pub mod Engines
pub mod Commits
pub mod Until
pub mod Wholes
pub mod Joins
