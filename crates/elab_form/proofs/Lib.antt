pub mod Courses
pub mod Sameness
