pub mod CarryingAll
pub mod Demands
