pub mod Labels
pub mod SameLemmas
