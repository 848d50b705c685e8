pub mod Order
pub mod Match
pub mod Cut
pub mod Refinement
pub mod Paper
pub mod Least
