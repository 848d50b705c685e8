pub mod Columns
pub mod Rows
pub mod Refining
pub mod Demands
pub mod Carrying
