pub mod Faults
pub mod OnLines
pub mod Written
