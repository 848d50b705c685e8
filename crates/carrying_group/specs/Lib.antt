pub mod Group
pub mod Trying
