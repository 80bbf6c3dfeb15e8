pub mod Leaves
pub mod Ways
pub mod Lent
pub mod Values
pub mod Known
pub mod Sole
