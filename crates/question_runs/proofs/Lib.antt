pub mod RunSteps
pub mod RunParts
pub mod GrowingRuns
pub mod GrowingRounds
pub mod TogetherRounds
mod Needs
mod AtRest
pub mod KeptRuns
