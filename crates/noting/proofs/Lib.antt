pub mod Bit
pub mod Noting
