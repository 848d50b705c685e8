-- The lemmas that belong to no one function. Each file cites only those before it.
pub mod Seeds
pub mod OneGroup
pub mod Sowing
pub mod Wanting
pub mod Planting
pub mod Begun
