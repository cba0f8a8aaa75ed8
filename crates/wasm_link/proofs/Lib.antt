pub mod NameLemmas
pub mod InOrder
pub mod Orders
pub mod Steps
pub mod DistinctLemmas
pub mod Modules
pub mod Law
