pub mod Lines
pub mod Most
