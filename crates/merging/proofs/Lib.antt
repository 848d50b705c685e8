-- The lemmas that belong to no one function. Each file cites only those before it.
pub mod Moving
pub mod Merging
pub mod Rearranging
