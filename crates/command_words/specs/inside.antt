-- What only proofs and private clauses use.
pub mod Arguments
pub mod Rows
pub mod Table
