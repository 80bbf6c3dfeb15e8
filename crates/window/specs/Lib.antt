pub mod Bounds
pub mod Code
pub mod Constants
pub mod Phase
pub mod Window
