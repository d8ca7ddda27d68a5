mod Command
pub mod Numbers
pub mod Readings
mod Rows
mod WordKinds
