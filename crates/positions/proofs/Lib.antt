pub mod Every
pub mod Demands
pub mod Laws
pub mod WrongCalls
