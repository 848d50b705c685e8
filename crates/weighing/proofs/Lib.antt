pub mod Signed
pub mod Choosing
pub mod Top
