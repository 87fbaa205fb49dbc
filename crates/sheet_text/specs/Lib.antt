pub mod Escape
pub mod Blocks
pub mod InputLines
pub mod Script
pub mod Replies
pub mod Texts
pub mod Laws
pub mod inside
