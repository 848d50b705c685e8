pub mod RunLists
pub mod Storing
pub mod Walking
