pub mod Longest
pub mod Runs
pub mod Shown
pub mod Sole
pub mod Telling
