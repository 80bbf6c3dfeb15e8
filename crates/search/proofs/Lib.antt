pub mod Counted
pub mod Read
pub mod Runs
pub mod Shown
pub mod Sole
pub mod Steps
pub mod Telling
