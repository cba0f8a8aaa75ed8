pub mod Honest
pub mod Laws
pub mod Groups
pub mod Claims
pub mod Renaming
pub mod Cycles
pub mod Example
