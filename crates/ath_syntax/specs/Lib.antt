pub mod Fits
pub mod Nodes
pub mod Places
pub mod Proper
pub mod Size
pub mod Stands
pub mod Tree
