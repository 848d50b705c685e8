pub mod Both
pub mod Whole
