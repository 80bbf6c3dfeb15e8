pub mod Rules
pub mod Line
pub mod FirstBroken
pub mod ReadBack
pub mod Constants
