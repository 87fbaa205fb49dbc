-- What only proofs and private clauses use.
pub mod Wholes
