pub mod Levels
pub mod Halves
pub mod Encodes
pub mod Shown
pub mod Sole
