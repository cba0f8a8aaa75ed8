pub mod Steps
pub mod Files
pub mod Codes
pub mod Outcome
