pub mod Within
pub mod Placing
