pub mod Turns
pub mod Sole
