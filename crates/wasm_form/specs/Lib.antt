pub mod Opcodes
pub mod Binary
