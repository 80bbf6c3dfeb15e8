pub mod Reading
pub mod Code
