pub mod LookUp
pub mod Stands
pub mod Values
