pub mod Equality
pub mod Nodes
