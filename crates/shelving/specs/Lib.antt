pub mod AllSets
pub mod OneSet
