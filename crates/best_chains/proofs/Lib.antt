pub mod Chains
pub mod Best
pub mod Backbones
pub mod Apart
