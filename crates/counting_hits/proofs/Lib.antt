pub mod Spanned
pub mod Exceeding
