mod Answering
mod Feeding
mod Finishing
mod Shown
pub mod Sole
mod Steps
pub mod Whole
