pub mod Lanes
pub mod Ranges
