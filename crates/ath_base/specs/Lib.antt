pub mod Base
pub mod Stands
