pub mod Answers
pub mod Constants
pub mod Search
pub mod Steps
