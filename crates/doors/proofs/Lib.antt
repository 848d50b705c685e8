pub mod Agreement
pub mod Carrying
pub mod Lists
