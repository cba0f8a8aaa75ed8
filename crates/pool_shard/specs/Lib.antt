pub mod Looks
pub mod Pairs
