pub mod Measures
pub mod Nodes
pub mod Stands
pub mod Values
