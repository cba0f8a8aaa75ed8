pub mod Buffer
pub mod Leb
