pub mod Acceptances
pub mod Copied
pub mod Earlier
pub mod Filed
pub mod Printed
pub mod Runs
pub mod Tried
pub mod Visits
