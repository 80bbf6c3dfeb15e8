pub mod Masks
pub mod Member
pub mod Sole
