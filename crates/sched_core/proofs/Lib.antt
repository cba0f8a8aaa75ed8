pub mod Schedules
pub mod Entries
pub mod TableSteps
pub mod Possible
