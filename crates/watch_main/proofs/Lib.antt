pub mod MemoryLemmas
pub mod WriteLemmas
pub mod WordLemmas
pub mod ReadLemmas
pub mod SessionLemmas
pub mod RunLemmas
