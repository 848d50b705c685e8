pub mod Finding
pub mod Distinct
pub mod Covering
pub mod Tally
pub mod Summing
