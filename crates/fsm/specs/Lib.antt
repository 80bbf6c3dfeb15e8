pub mod Station
pub mod Ticking
pub mod Rx
pub mod Starting
pub mod Refusals
pub mod Polling
pub mod Calls
pub mod Constants
