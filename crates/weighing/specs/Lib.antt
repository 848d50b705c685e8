pub mod Weighing
