pub mod Runs
pub mod Strides
