pub mod TransactionEnds
pub mod Faults
pub mod InOrder
pub mod Opened
pub mod OwnFaults
pub mod Taken
