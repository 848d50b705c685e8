pub mod RowsLeast
pub mod MarksHeld
pub mod Tabling
