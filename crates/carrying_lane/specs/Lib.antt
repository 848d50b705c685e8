pub mod Parts
pub mod Range
