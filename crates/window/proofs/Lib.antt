pub mod Bounds
pub mod Bytes
pub mod Captured
pub mod Peeks
pub mod Placing
pub mod Sole
pub mod Turns
