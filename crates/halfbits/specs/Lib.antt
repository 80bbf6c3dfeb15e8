pub mod Frame
pub mod Wave
pub mod HalfBits
pub mod Encoding
pub mod Code
pub mod Constants
