pub mod Line
pub mod Refusals
pub mod Calls
pub mod Constants
