pub mod Passes
pub mod Slots
