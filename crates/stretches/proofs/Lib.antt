pub mod Under
pub mod Uniting
pub mod Summing
pub mod Adding
pub mod Room
