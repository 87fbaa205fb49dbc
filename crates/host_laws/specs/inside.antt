-- What only proofs use.
pub mod Given
