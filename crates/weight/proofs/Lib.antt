pub mod Rising
pub mod Sole
