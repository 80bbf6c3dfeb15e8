pub mod Constants
pub mod Event
