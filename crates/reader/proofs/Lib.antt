pub mod Progress
pub mod Walks
pub mod Finds
pub mod Filled
