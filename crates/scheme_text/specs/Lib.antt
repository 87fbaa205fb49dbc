pub mod Quoting
pub mod Requests
pub mod Outputs
pub mod Answers
pub mod Reported
pub mod Same
pub mod Laws
pub mod inside
