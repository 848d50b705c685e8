pub mod Gathering
pub mod Joined
pub mod Parts
pub mod Rising
pub mod Room
pub mod Spans
pub mod Windows
