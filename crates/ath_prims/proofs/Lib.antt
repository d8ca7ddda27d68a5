pub mod Matched
pub mod Rows
mod Worked
pub mod Fitting
pub mod Finding
