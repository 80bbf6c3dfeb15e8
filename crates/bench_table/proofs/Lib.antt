pub mod Clash
pub mod Table
