pub mod Replay
pub mod Drawing
pub mod Moments
pub mod Words
