pub mod Denote
pub mod Nodes
pub mod Typed
