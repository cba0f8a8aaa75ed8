pub mod CallLemmas
pub mod ItemLemmas
pub mod ReadLemmas
