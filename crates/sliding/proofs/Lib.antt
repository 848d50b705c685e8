pub mod Sliding
