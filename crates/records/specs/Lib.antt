pub mod Records
pub mod Bytes
pub mod Storing
pub mod Outcomes
pub mod Writing
pub mod Listing
pub mod Demands
