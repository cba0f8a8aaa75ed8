pub mod Cycles
pub mod Walks
pub mod Shown
