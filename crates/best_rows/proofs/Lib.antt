pub mod Halves
pub mod Finding
pub mod Entering
