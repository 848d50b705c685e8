pub mod Ways
pub mod Carried
