pub mod Programs
pub mod Runs
pub mod RunLaws
pub mod Rounds
pub mod RoundLaws
pub mod RestLaws
pub mod Kept
pub mod KeptLaws
