pub mod Lines
pub mod Chunk
pub mod AnyChunks
pub mod Constants
