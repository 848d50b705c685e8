pub mod Listing
pub mod Raising
