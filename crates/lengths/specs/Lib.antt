pub mod Constants
pub mod Lengths
