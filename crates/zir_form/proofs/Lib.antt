pub mod Digits
pub mod NameLemmas
pub mod PlaceLemmas
pub mod Rows
pub mod LineLemmas
pub mod TableLemmas
pub mod MapLemmas
pub mod FileLaws
