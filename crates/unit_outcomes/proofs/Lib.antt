pub mod HeadLemmas
pub mod StayLemmas
pub mod ReportLemmas
pub mod SpellLemmas
