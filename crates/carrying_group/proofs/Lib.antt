pub mod OneTry
pub mod Going
