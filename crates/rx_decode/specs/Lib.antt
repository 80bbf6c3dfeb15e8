pub mod Code
pub mod Kinds
pub mod LowRun
pub mod Reading
