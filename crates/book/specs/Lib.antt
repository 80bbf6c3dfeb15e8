pub mod Report
pub mod Reader
pub mod Whole
pub mod Code
pub mod Constants
