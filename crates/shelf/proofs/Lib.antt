-- The lemmas that belong to no one function. Each file cites only those before it.
pub mod Writing
pub mod Shelving
pub mod Members
pub mod Filling
