-- The lemmas that belong to no one function. Each file cites only those before it.
pub mod SetBySet
pub mod Laying
