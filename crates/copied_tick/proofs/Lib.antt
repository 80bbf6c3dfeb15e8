pub mod Sole
mod Values
