pub mod Events
pub mod Lines
pub mod Prefix
pub mod Printers
pub mod Stands
