pub mod Empties
pub mod Shares
