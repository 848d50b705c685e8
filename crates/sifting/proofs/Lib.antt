-- The lemmas that belong to no one function.
pub mod Keeping
pub mod Nearing
pub mod Sifting
