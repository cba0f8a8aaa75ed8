pub mod Heads
pub mod Reports
