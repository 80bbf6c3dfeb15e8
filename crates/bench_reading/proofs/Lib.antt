mod Handed
pub mod Sole
