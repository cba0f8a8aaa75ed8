pub mod KnownUnits
pub mod MetUnits
pub mod RoundSteps
pub mod Standing
pub mod Settling
pub mod Rounds
pub mod Analyses
