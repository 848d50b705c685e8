pub mod Scripts
pub mod AllLines
