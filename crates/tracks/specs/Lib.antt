pub mod Tracks
pub mod Engine
pub mod Groups
