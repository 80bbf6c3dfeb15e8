pub mod Kept
pub mod Sole
pub mod Words
pub mod Written
