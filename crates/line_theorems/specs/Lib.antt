pub mod Reached
pub mod Lines
pub mod OnLine
pub mod LoneSender
pub mod TwoSenders
pub mod Clash
pub mod AnyOrder
pub mod Retry
