pub mod AnyChunks
mod Kept
pub mod More
pub mod Rooms
pub mod Sole
pub mod Steps
