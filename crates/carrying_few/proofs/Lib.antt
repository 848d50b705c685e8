pub mod OneCut
pub mod Placing
pub mod CutByCut
