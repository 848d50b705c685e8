pub mod Indexed
pub mod Counting
pub mod Settled
pub mod Stepping
pub mod Grouped
