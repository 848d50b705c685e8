pub mod Hit
