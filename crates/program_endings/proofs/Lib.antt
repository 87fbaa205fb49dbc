pub mod Answering
pub mod Forms
pub mod Lines
pub mod Living
pub mod Streams
pub mod Totals
pub mod Evaluating
pub mod Began
