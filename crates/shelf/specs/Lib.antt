pub mod Shelf
pub mod Writing
pub mod Filling
