pub mod Moving
