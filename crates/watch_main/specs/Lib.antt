pub mod Words
pub mod AnswerText
pub mod Memory
pub mod Session
pub mod RunOnce
pub mod Steps
