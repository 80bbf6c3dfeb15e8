pub mod Answer
pub mod Code
pub mod Constants
pub mod Longest
