pub mod Chains
pub mod Backbone
pub mod Chaining
pub mod Demands
