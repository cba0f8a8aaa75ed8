pub mod Labels
pub mod Same
