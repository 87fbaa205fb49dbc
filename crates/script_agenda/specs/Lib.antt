pub mod ScriptAt
pub mod Gathering
pub mod Says
pub mod ScriptRules
pub mod Run
pub mod InOrder
