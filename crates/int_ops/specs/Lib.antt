pub mod IntType
pub mod Division
pub mod Bits
pub mod Exact
pub mod IntOut
