pub mod Below
pub mod Over
pub mod Trees
