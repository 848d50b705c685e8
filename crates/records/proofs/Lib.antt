pub mod Bytes
pub mod Scripts
pub mod Lists
pub mod Passed
pub mod WritingOutcome
pub mod Demands
pub mod Laying
