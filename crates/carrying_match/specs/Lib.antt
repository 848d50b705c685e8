pub mod OneMatch
