pub mod Simple
pub mod Subcommands
