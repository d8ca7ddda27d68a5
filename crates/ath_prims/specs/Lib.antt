pub mod Applied
pub mod Follows
pub mod Schemata
pub mod Stands
