pub mod Numbers
pub mod Ticks
pub mod Replays
pub mod Sole
