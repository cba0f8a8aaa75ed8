pub mod Built
pub mod Unbuilt
