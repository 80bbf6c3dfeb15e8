pub mod Holding
pub mod Sole
pub mod Store
