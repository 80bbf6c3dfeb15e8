pub mod FirstBroken
mod LineLaws
pub mod ReadBack
pub mod Sole
