pub mod Sources
pub mod SizeLemmas
