pub mod BindingLemmas
pub mod Trees
pub mod Prefixes
pub mod Cases
pub mod Walks
