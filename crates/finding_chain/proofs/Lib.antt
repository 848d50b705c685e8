pub mod Beginning
pub mod Finding
pub mod Linking
pub mod Ordering
pub mod Parts
