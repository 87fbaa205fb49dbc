pub mod ByWords
pub mod EachChecked
pub mod NumbersRead
pub mod PlansRefused
pub mod Unheld
pub mod Within
