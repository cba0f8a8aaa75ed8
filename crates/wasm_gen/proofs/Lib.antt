pub mod Numbers
pub mod Nodes
pub mod Steps
pub mod Runs
pub mod Growing
