pub mod Calls
pub mod Ticks
pub mod Invariants
pub mod OverTicks
