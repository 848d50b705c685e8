pub mod Gathering
pub mod Laws
pub mod Sieving
pub mod Storing
