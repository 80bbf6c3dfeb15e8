pub mod Lines
pub mod Longest
pub mod Sole
