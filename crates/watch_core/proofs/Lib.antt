pub mod FilesLemmas
pub mod LimitLemmas
pub mod TokenLemmas
pub mod StageLemmas
pub mod PlaceLemmas
pub mod CaseLemmas
pub mod InOrder
