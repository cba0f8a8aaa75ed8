pub mod LebLemmas
pub mod LebForms
