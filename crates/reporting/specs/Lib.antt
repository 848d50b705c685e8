pub mod Lines
pub mod Reporting
pub mod LineTwo
