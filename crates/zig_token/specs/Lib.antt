pub mod Escapes
pub mod Scan
pub mod Answer
