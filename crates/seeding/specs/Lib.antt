pub mod Seeds
pub mod Sown
pub mod Wanting
