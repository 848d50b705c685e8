pub mod TableRows
pub mod Numbers
