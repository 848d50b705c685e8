pub mod Loops
pub mod Together
